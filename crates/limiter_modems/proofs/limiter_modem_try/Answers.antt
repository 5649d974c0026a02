-- `limiter_modem_try` tells the outcome of the rule that the operation of `modems` gives.
use Rattle.rules.proofs.RuleLaws.{outcome_is_told}
use borrow.Author.Rules.{rules}
use Rattle.limiter_modems.proofs.limiter_modem_try.Goals as goal

pub returns : goal.returns
returns c = outcome_is_told
    (rw c.settings_of.ensures at c.try_acquire_with_cost.ensures) c.told.ensures
