-- `limiter_modem_reserve` tells the outcome of the rule that the operation of `modems` gives.
use Rattle.rules.proofs.RuleLaws.{outcome_is_told}
use borrow.Author.Rules.{rules}
use Rattle.limiter_modems.proofs.limiter_modem_reserve.Goals as goal

pub returns : goal.returns
returns c = outcome_is_told (rw c.settings_of.ensures at c.reserve.ensures) c.told.ensures
