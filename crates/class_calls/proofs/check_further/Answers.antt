-- `check_further` makes the three checks in turn.
use Rattle.settings.proofs.RefusalLaws.{first_refuses, second_decides}
use Rattle.class_calls.proofs.check_further.Goals as goal

pub returns-in_err-check_moment : goal.returns-in_err-check_moment
returns-in_err-check_moment c = first_refuses c.from_residual.result _ _ c.from_residual.ensures.1 c.in_err-check_moment.ensures

pub returns-in_err-check_table : goal.returns-in_err-check_table
returns-in_err-check_table c = let handed = c.from_residual-in_err-check_table in
    second_decides c.in_ok-check_moment.ensures (first_refuses handed.result _ _ handed.ensures.1 c.in_err-check_table.ensures)

pub returns : goal.returns
returns c = second_decides c.in_ok-check_moment.ensures (second_decides c.in_ok-check_table.ensures c.check_number.ensures)
