-- `Settings::check` answers the first refusal of the two: the limit's if there is one, else the size's.
use Rattle.settings.proofs.RefusalLaws.{first_refuses, second_decides}
use Rattle.settings.proofs.Settings.check.Goals as goal

pub returns-in_err-check : goal.returns-in_err-check
returns-in_err-check c = first_refuses c.from_residual.result _ _ c.from_residual.ensures.1 c.in_err-check.ensures

pub returns : goal.returns
returns c = second_decides c.in_ok-check.ensures c.check_sizes.ensures
