-- `check_reservation` makes the two checks in turn.
use Rattle.settings.proofs.RefusalLaws.{first_refuses, second_decides}
use Rattle.requests.proofs.check_reservation.Goals as goal

pub returns-in_err-check_moment : goal.returns-in_err-check_moment
returns-in_err-check_moment c = first_refuses c.from_residual.result _ _ c.from_residual.ensures.1 c.in_err-check_moment.ensures

pub returns : goal.returns
returns c = second_decides c.in_ok-check_moment.ensures c.check_wait.ensures
