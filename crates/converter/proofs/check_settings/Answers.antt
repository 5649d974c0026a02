-- `check_settings` checks the settings, and then whether there are too many keys.
use Rattle.settings.proofs.RefusalLaws.{first_refuses, second_decides}
use Rattle.converter.proofs.RefusalLaws.{more_keys_are_refused, keys_are_accepted}
use Rattle.converter.proofs.check_settings.Goals as goal

pub returns-in_err-check : goal.returns-in_err-check
returns-in_err-check c = first_refuses c.from_residual.result _ _ c.from_residual.ensures.1 c.in_err-check.ensures

pub returns-then-settings-gt-MOST_KEYS : goal.returns-then-settings-gt-MOST_KEYS
returns-then-settings-gt-MOST_KEYS c = second_decides c.in_ok-check.ensures (more_keys_are_refused _ c.if-settings-gt-MOST_KEYS.true)

pub returns : goal.returns
returns c = second_decides c.in_ok-check.ensures (keys_are_accepted _ c.if-settings-gt-MOST_KEYS.false)
