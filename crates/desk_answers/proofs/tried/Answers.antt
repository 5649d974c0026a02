-- `tried` tells the outcome of the rule that perkey's try gives.
use Rattle.rules.proofs.RuleLaws.{outcome_is_told}
use borrow.Author.Rules.{rules}
use Rattle.desk_answers.proofs.tried.Goals as goal

pub returns : goal.returns
returns c = outcome_is_told (rw c.identity-id.ensures at c.try_acquire_with_cost.ensures)
    c.told.ensures
