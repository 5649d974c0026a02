-- `in_store` lends the words of the store, and puts back what the call leaves in them.
use Rattle.desk_answers.proofs.DeskLaws.{size_fits, lent_answered}
use Rattle.desk_answers.specs.Desk.{answered}
use borrow.Author.Rules.{rules}
use Rattle.desk_answers.proofs.in_store.Goals as goal

pub slice_bounds-answer-end : goal.slice_bounds-answer-end
slice_bounds-answer-end c = rw c.store_size-size.ensures (size_fits _ _)

pub returns : goal.returns
returns c = let args' = c.args in
    lent_answered args'.settings args'.memory.now _ (answered args'.settings args'.line) c.store_size-size.ensures
    c.answer.ensures
