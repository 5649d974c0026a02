-- The fields after the letter, one after the other, as the code comes to them.
use Rattle.std.proofs.Common.{Option, Some, None}
use Prim.Native.Nat.{ℕ, ◌+◌, ◌-◌, ◌≤◌, ◌<◌}
use native.Mathlib.Omega.{arith}
use mathlib.Core.Path.{◌≡◌, ap}
use mathlib.Core.Bool.{Bool, true, false}
use mathlib.Core.List.{List}
use lib.ListN.{length, take, drop}
use lib.Seq.{drop-drop}
use Rattle.rows.specs.Segments.{segment}
use Rattle.desk_lines.specs.Fields.{field_end, fields_from}
use Rattle.desk_lines.specs.declared.Line.{Line}
use Rattle.desk_lines.specs.Lines.{longest_line, line_of}
use Rattle.desk_lines.proofs.FieldLaws.{none_left, first_field}
use Rattle.desk_reasons.specs.declared.Fault.{Fault}
use Rattle.desk_reasons.specs.declared.Reason.{Reason}
use Rattle.desk_reasons.specs.declared.Reason.TheVariants.{Field, Blank, Long}
use Rattle.desk_reasons.specs.declared.kinds.Kind.{Kind}
use Rattle.desk_reasons.specs.Reasons.{kinds_of, first_kind, letter_in, letter_fault, accepts, field_fault, end_reason, fields_reason}
use Rattle.desk_reasons.specs.Reasons.{reason_by_letter, reason_of_fields, reason_of, is_set_up, out_of_place, reason_at}
use borrow.Author.Tests.{eq-eqb, ne_eqb, le-leb, lt-leb}

-- The reason from a field on.
abbrev pub reason_from : List ℕ → ℕ → ℕ → ℕ → Option Reason
reason_from line letter at i = fields_reason i (drop i (kinds_of letter)) (fields_from line at)

module _ (line : List ℕ) (letter at i : ℕ) where
  pub line_ends : {k : Option Kind} → k ≡ first_kind (drop i (kinds_of letter)) → length line < at → end_reason k i ≡ reason_from line letter at i
  unfolding fields_reason
  line_ends is past = rw (none_left line at past, is)

  module _ (inside : at ≤ length line) {end : ℕ} (ends : end ≡ field_end line at) {k : Option Kind} (is : k ≡ first_kind (drop i (kinds_of letter))) where
    pub field_at_fault : accepts k (segment at (end - at) line) ≡ false → {f : Fault} → f ≡ field_fault k (segment at (end - at) line)
        → Some (Field (i + 2) f) ≡ reason_from line letter at i
    unfolding fields_reason
    field_at_fault wrong fault = rw (first_field line at inside, ← ends, ← is, wrong, fault)

    pub field_is_fine : accepts k (segment at (end - at) line) ≡ true → reason_from line letter (end + 1) (i + 1) ≡ reason_from line letter at i
    unfolding fields_reason
    field_is_fine right = rw (first_field line at inside, ← ends, ← is, right, drop-drop 1 i (kinds_of letter))

-- The whole line.
module _ (line : List ℕ) where
  pub line_is_blank : length line ≡ 0 → Some Blank ≡ reason_of line
  unfolding reason_of
  line_is_blank none = rw (eq-eqb _ _ none)

  module _ (some : length line ≡ 0 → ⊥) where
    pub line_is_long : longest_line < length line → Some Long ≡ reason_of line
    unfolding reason_of
    line_is_long long = rw (ne_eqb _ _ some, lt-leb _ _ long)

    module _ (short : length line ≤ longest_line) {end : ℕ} (ends : end ≡ field_end line 0) {letter : Option ℕ} (is : letter ≡ letter_in (take end line)) where
      by_first : reason_of line ≡ reason_by_letter letter (take end line) (fields_from line (end + 1))
      unfolding reason_of fields_from
      by_first =
          let whole : field_end line 0 - 0 ≡ field_end line 0 = omega arith in
          let first = rw (le-leb 0 (length line) (omega arith), whole) at (first_field line 0 (omega arith)) in
          rw (ne_eqb _ _ some, le-leb _ _ short, is, ends) (ap reason_of_fields first)

      pub no_letter_first : letter ≡ None → {f : Fault} → f ≡ letter_fault (take end line) → Some (Field 1 f) ≡ reason_of line
      no_letter_first none fault = rw (by_first, none, fault)

      pub letter_first : {b : ℕ} → letter ≡ Some b → reason_from line b (end + 1) 0 ≡ reason_of line
      letter_first one = rw (by_first, one)

-- By its place in the input.
module _ (first : Bool) (bytes : List ℕ) where
  pub fine_by_place : {r : Option Reason} {line : Line} → reason_of bytes ≡ None → line ≡ line_of bytes → r ≡ out_of_place first (is_set_up line)
      → r ≡ reason_at first bytes
  unfolding reason_at
  fine_by_place fine read placed = rw (fine, ← read) placed

  pub faulty_anywhere : {r : Reason} → reason_of bytes ≡ Some r → Some r ≡ reason_at first bytes
  unfolding reason_at
  faulty_anywhere faulty = rw faulty
