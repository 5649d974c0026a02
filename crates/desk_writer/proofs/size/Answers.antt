-- `size` adds the letter and the LF to the numbers of each kind of call.
use Rattle.desk_writer.proofs.WritingLaws.{try_size, peek_size, reserve_size, refund_size, remove_size}
use Rattle.desk_writer.proofs.size.Goals as goal

pub returns-in-Try : goal.returns-in-Try
returns-in-Try c = rw c.in-Try.is (try_size _ c.request_size.ensures.0)

pub returns-in-Peek : goal.returns-in-Peek
returns-in-Peek c = rw c.in-Peek.is (peek_size _ c.request_size-in-Peek.ensures.0)

pub returns-in-Reserve : goal.returns-in-Reserve
returns-in-Reserve c = rw c.in-Reserve.is (reserve_size _ _ c.request_size-in-Reserve.ensures.0 c.field_size.ensures.0)

pub returns-in-Refund : goal.returns-in-Refund
returns-in-Refund c = rw c.in-Refund.is (refund_size _ _ c.field_size-in-Refund.ensures.0 c.field_size-in-Refund-2.ensures.0)

pub returns-in-Remove : goal.returns-in-Remove
returns-in-Remove c = rw c.in-Remove.is (remove_size _ c.field_size-in-Remove.ensures.0)
