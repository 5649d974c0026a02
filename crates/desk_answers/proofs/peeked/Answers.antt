-- `peeked` tells the outcome of the rule that perkey's peek gives.
use Rattle.rules.proofs.RuleLaws.{outcome_is_told}
use borrow.Author.Rules.{rules}
use Rattle.desk_answers.proofs.peeked.Goals as goal

pub returns : goal.returns
returns c = outcome_is_told (rw c.identity-id.ensures at c.peek.ensures) c.told.ensures
