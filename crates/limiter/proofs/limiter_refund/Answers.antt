-- `limiter_refund` tells the outcome of the rule that perkey's operation gives.
use Rattle.rules.proofs.RuleLaws.{outcome_is_told}
use borrow.Author.Rules.{rules}
use Rattle.limiter.proofs.limiter_refund.Goals as goal

pub returns : goal.returns
returns c = outcome_is_told (rw c.settings_of.ensures at c.refund.ensures) c.told.ensures
