-- `serve` has a case for each stage of the run.
use Rattle.desk_answers.proofs.DeskLaws.{next_served}
use borrow.Author.Rules.{rules}
use Rattle.desk_answers.proofs.serve.Goals as goal

pub returns-in-First : goal.returns-in-First
returns-in-First c = rw c.in-First.is c.«open».ensures

pub returns-in-Open : goal.returns-in-Open
returns-in-Open c = rw c.in-Open.is (next_served _ c.in_store.ensures)

pub returns-in-Ended : goal.returns-in-Ended
returns-in-Ended c = rw (c.in-Ended.is, c.unopened.ensures)
