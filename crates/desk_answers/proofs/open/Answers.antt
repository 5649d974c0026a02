-- `open` has a case for each line: only a set_up_lem opens the desk.
use borrow.Author.Rules.{rules}
use Rattle.desk_answers.proofs.open.Goals as goal

pub returns-in-SetUp : goal.returns-in-SetUp
returns-in-SetUp c = rw c.in-SetUp.is c.set_up.ensures

pub returns-in-Try : goal.returns-in-Try
returns-in-Try c = rw (c.in-Try.is, c.unopened.ensures)

pub returns-in-Peek : goal.returns-in-Peek
returns-in-Peek c = rw (c.in-Peek.is, c.unopened-in-Peek.ensures)

pub returns-in-Reserve : goal.returns-in-Reserve
returns-in-Reserve c = rw (c.in-Reserve.is, c.unopened-in-Reserve.ensures)

pub returns-in-Refund : goal.returns-in-Refund
returns-in-Refund c = rw (c.in-Refund.is, c.unopened-in-Refund.ensures)

pub returns-in-Remove : goal.returns-in-Remove
returns-in-Remove c = rw (c.in-Remove.is, c.unopened-in-Remove.ensures)

pub returns-in-Malformed : goal.returns-in-Malformed
returns-in-Malformed c = rw (c.in-Malformed.is, c.unopened-in-Malformed.ensures)
