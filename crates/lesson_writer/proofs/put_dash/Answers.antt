-- src/lib.rt:89:5
use Rattle.lesson_writer.proofs.WritingLaws.{two_bytes}
use lib.ListN.{length-set}
use native.Mathlib.Omega.{arith}
use Rattle.lesson_writer.proofs.put_dash.Goals as goal

pub bounds-out-next : goal.bounds-out-next
bounds-out-next c = simp length-set (omega arith)

pub returns : goal.returns
returns c = let args' = c.args in
    two_bytes args'.out.now args'.at 45 32
