-- `reserved` tells the outcome of the rule that perkey's reserve gives.
use Rattle.rules.proofs.RuleLaws.{outcome_is_told}
use borrow.Author.Rules.{rules}
use Rattle.desk_answers.proofs.reserved.Goals as goal

pub returns : goal.returns
returns c = outcome_is_told (rw c.identity-id.ensures at c.reserve.ensures) c.told.ensures
