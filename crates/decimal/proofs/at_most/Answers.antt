-- `decimal::at_most` compares once.
use borrow.Author.Tests.{le-leb, lt-leb}
use Rattle.decimal.proofs.at_most.Goals as goal

pub returns-then-value-most : goal.returns-then-value-most
returns-then-value-most c = rw (lt-leb _ _ c.if-value-most.true)

pub returns : goal.returns
returns c = rw (le-leb _ _ c.if-value-most.false)
