-- `row_of` has a case for each line.
use Rattle.std.proofs.Common.{rules}
use Rattle.outage_run.proofs.row_of.Goals as goal

pub returns-in-Try : goal.returns-in-Try
returns-in-Try c = rw c.in-Try.is c.to_try.ensures

pub returns-in-SetUp : goal.returns-in-SetUp
returns-in-SetUp c = rw (c.in-SetUp.is, c.malformed.ensures)

pub returns-in-Peek : goal.returns-in-Peek
returns-in-Peek c = rw (c.in-Peek.is, c.malformed-in-Peek.ensures)

pub returns-in-Reserve : goal.returns-in-Reserve
returns-in-Reserve c = rw (c.in-Reserve.is, c.malformed-in-Reserve.ensures)

pub returns-in-Refund : goal.returns-in-Refund
returns-in-Refund c = rw (c.in-Refund.is, c.malformed-in-Refund.ensures)

pub returns-in-Remove : goal.returns-in-Remove
returns-in-Remove c = rw (c.in-Remove.is, c.malformed-in-Remove.ensures)

pub returns-in-Malformed : goal.returns-in-Malformed
returns-in-Malformed c = rw (c.in-Malformed.is, c.malformed-in-Malformed.ensures)
