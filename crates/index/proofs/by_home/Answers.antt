-- `by_home` picks by the definition's test.
use Rattle.std.proofs.Common.{le-leb}
use borrow.Author.Tests.{lt-leb}
use Rattle.index.proofs.by_home.Goals as goal

pub returns-then-back-run : goal.returns-then-back-run
returns-then-back-run c = rw (le-leb _ _ c.if-back-run.true)

pub returns-else-back-run : goal.returns-else-back-run
returns-else-back-run c = rw (lt-leb _ _ c.if-back-run.false)
