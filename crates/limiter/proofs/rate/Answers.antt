-- `rate` takes its parts from the numbers.
use borrow.Author.Rules.{rules}
use Rattle.limiter.proofs.rate.Goals as goal

pub returns : goal.returns
returns c = rw (c.tokens.ensures, c.tokens-2.ensures)
