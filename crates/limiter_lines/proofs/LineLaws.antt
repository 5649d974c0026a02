-- What is told of a line that is written, and of one that is refused.
use Prim.Native.Nat.{ℕ}
use mathlib.Core.Path.{◌≡◌, ◌∙◌, ap}
use mathlib.Core.List.{List}
use Rattle.rows.specs.Outcome.{outcome}
use Rattle.rows.proofs.OutcomeLaws.{answer_is, after_is}
use Rattle.rules.specs.declared.codes.Told.{Told}
use Rattle.desk_writer.specs.declared.DeskCall.{DeskCall}
use Rattle.desk_writer.specs.declared.Written.{Written}
use Rattle.desk_writer.specs.Writer.{written}
use Rattle.limiter_lines.specs.Lines.{line_told, told_written}
use borrow.Author.Tests.{eq-eqb, ne_eqb}

pub line_is_told : (w : Written) → w.number ≡ 0 → record { code = 0; number = w.size; moment = 0 } ≡ line_told w
unfolding line_told
line_is_told w is = rw (eq-eqb w.number 0 is)

pub refusal_is_told : (w : Written) → (w.number ≡ 0 → ⊥) → record { code = 23; number = w.size; moment = 0 } ≡ line_told w
unfolding line_told
refusal_is_told w other = rw (ne_eqb w.number 0 other)

-- A line that the writer gave, told.
pub written_is_told : (call : DeskCall) (buffer : List ℕ) {w : Written} {t : Told} {bytes : List ℕ}
    → outcome w bytes ≡ written call buffer → t ≡ line_told w → outcome t bytes ≡ told_written call buffer
written_is_told call buffer gave told = rw (told, answer_is gave, after_is gave)
