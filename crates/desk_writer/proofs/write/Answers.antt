-- `write` measures the line, and stores it where it has room.
use native.Mathlib.Omega.{arith}
use mathlib.Core.Path.{sym}
use Rattle.rows.proofs.OutcomeLaws.{answer_is}
use Rattle.desk_writer.proofs.SizeLaws.{line_size}
use Rattle.desk_writer.proofs.ReadBackLaws.{refusal_changes_no_byte}
use Rattle.desk_writer.proofs.WritingLaws.{line_is_written}
use Rattle.desk_writer.proofs.write.Goals as goal

pub returns-then-out-size : goal.returns-then-out-size
returns-then-out-size c = sym (refusal_changes_no_byte _ _ (omega arith))

pub put-end-requires : goal.put-end-requires
put-end-requires c = omega (arith, line_size c.args.call)

pub put_end-requires : goal.put_end-requires
put_end-requires c = let call' = c.args.call in
    omega (arith, line_size call', answer_is c.put-end.ensures, c.put-end.auto.out)

pub returns : goal.returns
returns c = let a = c.args in
    rw c.put_end.ensures (line_is_written a.call a.out.now (omega arith) c.size-size.ensures c.put-end.ensures)
