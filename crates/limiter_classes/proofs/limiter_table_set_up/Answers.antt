-- `limiter_table_set_up` tells the outcome of the rule that the call of `class_calls` gives.
use Rattle.rules.proofs.RuleLaws.{outcome_is_told}
use borrow.Author.Rules.{rules}
use Rattle.limiter_classes.proofs.limiter_table_set_up.Goals as goal

pub returns : goal.returns
returns c = outcome_is_told (rw c.settings_of.ensures at c.class_set_up.ensures)
    c.told.ensures
