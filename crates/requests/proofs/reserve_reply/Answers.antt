-- `reserve_reply` has a case for each decision.
use borrow.Author.Rules.{rules}
use Rattle.requests.proofs.reserve_reply.Goals as goal

pub returns-in-Allowed : goal.returns-in-Allowed
returns-in-Allowed c = rw c.in-Allowed.is
