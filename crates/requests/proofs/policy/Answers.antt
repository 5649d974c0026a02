-- `policy` takes its parts from the settings and the rate.
use borrow.Author.Rules.{rules}
use Rattle.requests.proofs.policy.Goals as goal

pub returns : goal.returns
returns c = rw (c.forgets.ensures, c.config.ensures)
