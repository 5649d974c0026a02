-- `closed` grants cost 0 alone.
use Rattle.rules.proofs.RuleLaws.{closed_grants_none, closed_grants_nothing_else}
use Rattle.rules.proofs.closed.Goals as goal

pub returns-then-cost-eq0 : goal.returns-then-cost-eq0
returns-then-cost-eq0 c = closed_grants_none _ _ c.due_now.ensures c.if-cost-eq0.true

pub returns-else-cost-eq0 : goal.returns-else-cost-eq0
returns-else-cost-eq0 c = closed_grants_nothing_else _ _ c.if-cost-eq0.false
