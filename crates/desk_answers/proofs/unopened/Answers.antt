-- `unopened` is what a malformed line is told, and the end.
use borrow.Author.Rules.{rules}
use Rattle.desk_answers.proofs.unopened.Goals as goal

pub returns : goal.returns
returns c = rw c.malformed-told.ensures
