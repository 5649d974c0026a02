-- `settings_of` takes its parts from the numbers.
use borrow.Author.Rules.{rules}
use Rattle.limiter.proofs.settings_of.Goals as goal

pub returns : goal.returns
returns c = rw (c.limit.ensures, c.eviction.ensures)
