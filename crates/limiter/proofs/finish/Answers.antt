-- `finish` tells what perkey's `finish` answers, for the settings that the numbers are.
use Rattle.rules.proofs.RuleLaws.{outcome_is_told}
use borrow.Author.Rules.{rules}
use Rattle.limiter.proofs.finish.Goals as goal

pub finish-requires : goal.finish-requires
finish-requires c = rw c.settings_of.ensures c.requires

pub returns : goal.returns
returns c = outcome_is_told (rw c.settings_of.ensures at c.finish.ensures) c.told.ensures
