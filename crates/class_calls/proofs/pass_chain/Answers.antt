-- `pass_chain` goes by the limit: on a closed limiter it tells that limiter's answer.
use Rattle.class_calls.proofs.PassLaws.{closed_is_told}
use Rattle.class_calls.proofs.pass_chain.Goals as goal

pub pass_at_rate-requires : goal.pass_at_rate-requires
pass_at_rate-requires c = record { under = c.requires; is_limit = c.in-Open.is }

pub returns-in-Closed : goal.returns-in-Closed
returns-in-Closed c = closed_is_told c.requires c.in-Closed.is c.closed.ensures

pub returns-in-Open : goal.returns-in-Open
returns-in-Open c = c.pass_at_rate.ensures
