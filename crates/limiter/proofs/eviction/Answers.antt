-- `eviction` takes its parts from the numbers.
use borrow.Author.Rules.{rules}
use Rattle.limiter.proofs.eviction.Goals as goal

pub returns : goal.returns
returns c = rw (c.with_when_full.ensures, c.numbered.ensures, c.bounds.ensures)
