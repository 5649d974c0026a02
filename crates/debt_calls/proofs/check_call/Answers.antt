-- `check_call` makes the three checks in turn: that of set-up, of the moment and of the shard's number.
use Rattle.settings.proofs.RefusalLaws.{first_refuses, second_decides}
use Rattle.debt_calls.proofs.check_call.Goals as goal

pub returns-in_err-check_set_up : goal.returns-in_err-check_set_up
returns-in_err-check_set_up c = first_refuses c.from_residual.result _ _ c.from_residual.ensures.1 c.in_err-check_set_up.ensures

pub returns-in_err-check_moment : goal.returns-in_err-check_moment
returns-in_err-check_moment c = let handed = c.from_residual-in_err-check_moment in
    second_decides c.in_ok-check_set_up.ensures (first_refuses handed.result _ _ handed.ensures.1 c.in_err-check_moment.ensures)

pub returns : goal.returns
returns c =
    second_decides c.in_ok-check_set_up.ensures (second_decides c.in_ok-check_moment.ensures (rw c.shape.ensures at c.check_shard.ensures))
