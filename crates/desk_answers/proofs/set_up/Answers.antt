-- `set_up` lends the words of the store to perkey's set_up_lem, and the run goes on if that accepts.
use Rattle.desk_answers.proofs.DeskLaws.{size_fits, lent_answered, first_served}
use Rattle.rules.proofs.RuleLaws.{outcome_is_told}
use Rattle.rules.specs.Rules as Rules
use borrow.Author.Rules.{rules}
use Rattle.desk_answers.proofs.set_up.Goals as goal

pub slice_bounds-set_up-end : goal.slice_bounds-set_up-end
slice_bounds-set_up-end c = rw c.store_size-size.ensures (size_fits _ _)

pub returns : goal.returns
returns c = let a = c.args in
    let gave = lent_answered a.settings a.memory.now _ (Rules.set_up a.settings) c.store_size-size.ensures c.set_up.ensures in
    first_served a.settings (outcome_is_told gave c.told-told.ensures) c.stage_after.ensures
