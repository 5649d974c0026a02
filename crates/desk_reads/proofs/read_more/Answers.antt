-- `read_more` changes the input after the bytes that are pending alone, and tells of no more bytes than there is room for.
use Rattle.std.proofs.Common.{◌≡◌, refl, ◌-◌, ◌≤◌, length, sym, ◌∙◌, arith}
use Rattle.desk_reads.proofs.ReadLaws.{result_grows, fits_after, no_count_fails}
use borrow.Rule.Slice.PartMut.{take_put}
use Rattle.desk_reads.proofs.read_more.Goals as goal
use Rattle.desk_reads.proofs.read_more.Goals.{in-Err, in_default}

pub returns-clause-brings : goal.returns-clause-brings
returns-clause-brings g c =
    let inside : c.args.pending ≤ length c.args.input.now = omega arith in
    let same : c.match-read.read ≡ c.read-read.result = elim c.match-read.branch [ in-Err w ↦ w.read-is ∙ sym w.in-Err.is | in_default w ↦ w.read-is ] in
    let part : length c.read-read.new.buf ≡ length c.args.input.now - c.args.pending = omega (arith, c.read-read.auto.buf) in
    (rw c.brought.ensures (rw same (result_grows _ _ _ inside (fits_after _ _ _ c.read-read.new.buf inside part c.read-read.ensures.bound))), rw take_put)

pub returns-clause-failure : goal.returns-clause-failure
returns-clause-failure g c = λ failed.
    elim c.match-read.branch [
      | in-Err w ↦ rw w.source-is refl
      | in_default w ↦ absurd
          (no_count_fails _ _ _ (w.read-is ∙ w.in_default.is) (sym c.brought.ensures ∙ failed))
    ]
