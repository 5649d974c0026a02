-- `pass_at_rate` goes by the cost, as the rule does.
use Rattle.class_calls.proofs.PassLaws.{too_much_is_told, nothing_is_granted}
use Rattle.class_calls.proofs.pass_at_rate.Goals as goal

pub returns-then-capacity-cost : goal.returns-then-capacity-cost
returns-then-capacity-cost c = too_much_is_told c.requires (rw c.capacity.ensures at c.if-capacity-cost.true)

pub returns-then-cost-eq0 : goal.returns-then-cost-eq0
returns-then-cost-eq0 c = nothing_is_granted c.requires (rw c.capacity.ensures at c.if-capacity-cost.false) c.if-cost-eq0.true c.due_now.ensures

pub pass_key-requires : goal.pass_key-requires
pass_key-requires c = record { at_rate = c.requires; within = rw c.capacity.ensures at c.if-capacity-cost.false; some = c.if-cost-eq0.false }

pub returns : goal.returns
returns c = c.pass_key.ensures
