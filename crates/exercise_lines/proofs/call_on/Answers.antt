-- `call_on` has a case for each kind of call.
use Rattle.exercise_lines.specs.Repeats.{call_on, within64}
use Rattle.exercise_lines.proofs.call_on.Goals as goal

pub request_on-requires : goal.request_on-requires
unfolding within64
request_on-requires c = rw c.in-Try.is at c.requires

pub request_on-requires-in-Peek : goal.request_on-requires-in-Peek
unfolding within64
request_on-requires-in-Peek c = rw c.in-Peek.is at c.requires

pub request_on-requires-in-Reserve : goal.request_on-requires-in-Reserve
unfolding within64
request_on-requires-in-Reserve c = rw c.in-Reserve.is at c.requires

pub key_on-requires : goal.key_on-requires
unfolding within64
key_on-requires c = rw c.in-Refund.is at c.requires

pub key_on-requires-in-Remove : goal.key_on-requires-in-Remove
unfolding within64
key_on-requires-in-Remove c = rw c.in-Remove.is at c.requires

pub returns-in-Try : goal.returns-in-Try
unfolding call_on
returns-in-Try c = rw (c.in-Try.is, c.request_on.ensures)

pub returns-in-Peek : goal.returns-in-Peek
unfolding call_on
returns-in-Peek c = rw (c.in-Peek.is, c.request_on-in-Peek.ensures)

pub returns-in-Reserve : goal.returns-in-Reserve
unfolding call_on
returns-in-Reserve c = rw (c.in-Reserve.is, c.request_on-in-Reserve.ensures)

pub returns-in-Refund : goal.returns-in-Refund
unfolding call_on
returns-in-Refund c = rw (c.in-Refund.is, c.key_on.ensures)

pub returns-in-Remove : goal.returns-in-Remove
unfolding call_on
returns-in-Remove c = rw (c.in-Remove.is, c.key_on-in-Remove.ensures)
