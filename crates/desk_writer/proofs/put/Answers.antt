-- `put` has a case for each kind of call.
use Rattle.desk_writer.proofs.put.Goals as goal

pub put_request-requires : goal.put_request-requires
put_request-requires c = rw c.in-Try.is at c.requires

pub put_request-requires-in-Peek : goal.put_request-requires-in-Peek
put_request-requires-in-Peek c = rw c.in-Peek.is at c.requires

pub put_reserve-requires : goal.put_reserve-requires
put_reserve-requires c = rw c.in-Reserve.is at c.requires

pub put_refund-requires : goal.put_refund-requires
put_refund-requires c = rw c.in-Refund.is at c.requires

pub put_remove-requires : goal.put_remove-requires
put_remove-requires c = rw c.in-Remove.is at c.requires

pub returns-in-Try : goal.returns-in-Try
returns-in-Try c = rw c.in-Try.is c.put_request.ensures

pub returns-in-Peek : goal.returns-in-Peek
returns-in-Peek c = rw c.in-Peek.is c.put_request-in-Peek.ensures

pub returns-in-Reserve : goal.returns-in-Reserve
returns-in-Reserve c = rw c.in-Reserve.is c.put_reserve.ensures

pub returns-in-Refund : goal.returns-in-Refund
returns-in-Refund c = rw c.in-Refund.is c.put_refund.ensures

pub returns-in-Remove : goal.returns-in-Remove
returns-in-Remove c = rw c.in-Remove.is c.put_remove.ensures
