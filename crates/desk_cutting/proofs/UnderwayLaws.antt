-- The loop over the whole lines of some bytes, for every program: how far it has come, and how one line more brings it on.
use Prim.Native.Nat.{ℕ, suc, ◌+◌, ◌-◌, ◌≤◌, ◌<◌}
use native.Mathlib.Omega.{arith}
use mathlib.Core.Path.{◌≡◌, refl, sym, ap, subst, ◌∙◌}
use mathlib.Core.Bool.{Bool, true, false}
use mathlib.Core.List.{List, [], ◌∷◌}
use lib.Dec.{T}
use lib.ListN.{length, take, drop, length-take, length-drop}
use lib.Seq.{drop-drop}
use Rattle.scan.specs.Bytes.{index_of}
use Rattle.rows.specs.Outcome.{Outcome, outcome}
use Rattle.rows.specs.Segments.{segment}
use Rattle.desk_lines.specs.Printed.{line_feed}
use Rattle.desk_cutting.specs.Cutting.{cut, last_line}
use Rattle.desk_cutting.specs.Answering.{Machine, and_then, lines_answered}
use Rattle.desk_cutting.proofs.CutLaws.{no_feed, at_feed}
use Rattle.desk_cutting.proofs.AnsweringLaws.{nothing_follows, ended_is_all, one_and_others}

-- The lines that end among some bytes, answered up to a place: with the lines from there on answered too, all is printed, and the run stands where all lines
-- bring it.
pub record Underway {S : Type 0} (m : Machine S) (o₀ : Outcome (List ℕ) S) (bytes : List ℕ) (at : ℕ) (o : Outcome (List ℕ) S) : Type 0 where
  pub answers : and_then o (lines_answered m (cut (drop at bytes)).lines) ≡ and_then o₀ (lines_answered m (cut bytes).lines)
  pub leaves : (cut (drop at bytes)).rest ≡ (cut bytes).rest

pub none_yet : {S : Type 0} (m : Machine S) (o : Outcome (List ℕ) S) (bytes : List ℕ) → Underway m o bytes 0 o
none_yet m o bytes = record { answers = refl; leaves = refl }

module _ {S : Type 0} {m : Machine S} {o₀ : Outcome (List ℕ) S} {bytes : List ℕ} {at : ℕ} {o : Outcome (List ℕ) S} (far : Underway m o₀ bytes at o) where
  -- No line feed is left.
  pub none_left : length bytes ≤ at + index_of line_feed (drop at bytes) → o ≡ and_then o₀ (lines_answered m (cut bytes).lines)
  none_left none =
      let whole = no_feed (drop at bytes) (omega (arith, none, length-drop at bytes)) in
      sym (nothing_follows m o) ∙ rw whole at far.answers

  pub rest_left : length bytes ≤ at + index_of line_feed (drop at bytes) → drop at bytes ≡ (cut bytes).rest
  rest_left none =
      let whole = no_feed (drop at bytes) (omega (arith, none, length-drop at bytes)) in
      rw whole at far.leaves

  -- The next line was answered: the others come after what is printed then.
  module _ {stop : ℕ} {p : Outcome (List ℕ) S} (goes_on : m.ended o.after ≡ false) (found : stop ≡ at + index_of line_feed (drop at bytes))
      (inside : stop < length bytes)
      (is_answered : p ≡ and_then o (m.answers (segment at (stop - at) bytes))) where
    parted : cut (drop at bytes)
        ≡ record { lines = segment at (stop - at) bytes ∷ (cut (drop (stop + 1) bytes)).lines; rest = (cut (drop (stop + 1) bytes)).rest }
    parted =
        let rest = drop at bytes in
        let i = index_of line_feed rest in
        let before : i ≡ stop - at = omega (arith, found) in
        let after : at + suc i ≡ stop + 1 = omega (arith, found) in
        let others : drop (suc i) rest ≡ drop (stop + 1) bytes = drop-drop (suc i) at bytes ∙ ap (λ (k : ℕ). drop k bytes) after in
        rw (others, before) at (at_feed rest (omega (arith, found, inside, length-drop at bytes)))

    pub line_follows : Underway m o₀ bytes (stop + 1) p
    line_follows = record {
      answers = ap (λ (q : Outcome (List ℕ) S). and_then q (lines_answered m (cut (drop (stop + 1) bytes)).lines)) is_answered
          ∙ sym (one_and_others m o (segment at (stop - at) bytes) (cut (drop (stop + 1) bytes)).lines goes_on) ∙ rw parted at far.answers;
      leaves = rw parted at far.leaves;
    }

    pub none_follow : m.ended p.after ≡ true → p ≡ and_then o₀ (lines_answered m (cut bytes).lines)
    none_follow ended = sym (ended_is_all m p (cut (drop (stop + 1) bytes)).lines ended) ∙ line_follows.answers

-- The last line: none where nothing is pending, else what is pending.
module _ {S : Type 0} (m : Machine S) where
  pub no_last_line : (pending : ℕ) (input : List ℕ) (s : S) → pending ≡ 0 → outcome [] s ≡ lines_answered m (last_line (take pending input)) s
  unfolding lines_answered
  no_last_line pending input s none = rw none

  begun_is_last : (line : List ℕ) → 0 < length line → last_line line ≡ line ∷ []
  begun_is_last [] begun = absurd (omega (arith, begun))
  begun_is_last (b ∷ bs) begun = refl

  pub last_is_answered : (pending : ℕ) (input : List ℕ) (s : S) {o : Outcome (List ℕ) S} → (pending ≡ 0 → ⊥) → pending ≤ length input → m.ended s ≡ false
      → o ≡ and_then (outcome [] s) (m.answers (take (pending - 0) input))
      → o ≡ lines_answered m (last_line (take pending input)) s
  unfolding lines_answered
  last_is_answered pending input s some inside goes_on is_answered =
      let same : pending - 0 ≡ pending = omega arith in
      rw (begun_is_last (take pending input) (omega (arith, some, inside, length-take pending input)), goes_on)
      ((rw same at is_answered) ∙ sym (nothing_follows m (m.answers (take pending input) s)))

-- What was told as true is not false.
pub told_true : {A : Type 0} → true ≡ false → A
told_true e = absurd (subst T e tt)

-- A run that was found to have ended does not go on.
pub ended_is_over : {A : Type 0} {b told : Bool} → told ≡ b → told ≡ true → b ≡ false → A
ended_is_over is ended goes_on = told_true (sym ended ∙ is ∙ goes_on)
