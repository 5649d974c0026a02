-- `Decision::retry_after` tells the wait of a retry: each arm knows its variant, and the definition computes at it.
use Rattle.settings.proofs.decision.Decision.retry_after.Goals as goal

pub returns-in-Acquired : goal.returns-in-Acquired
returns-in-Acquired c = rw c.in-Acquired.is

pub returns-in-Retry : goal.returns-in-Retry
returns-in-Retry c = rw c.in-Retry.is

pub returns-in-Impossible : goal.returns-in-Impossible
returns-in-Impossible c = rw c.in-Impossible.is
