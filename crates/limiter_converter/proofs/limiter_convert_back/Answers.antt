-- `limiter_convert_back` tells the outcome that the call of `converter` gives.
use Rattle.rules.proofs.RuleLaws.{outcome_is_told}
use borrow.Author.Rules.{rules}
use Rattle.limiter_converter.proofs.limiter_convert_back.Goals as goal

pub returns : goal.returns
returns c = outcome_is_told (rw c.settings_of.ensures at c.convert_back.ensures)
    c.told.ensures
