-- What is taken of the fields that are left from a place on, and that a failed reading stays failed.
use Rattle.std.proofs.Common.{Option, Some, None}
use Prim.Native.Nat.{ℕ, ◌+◌, ◌-◌, ◌≤◌, ◌<◌}
use native.Mathlib.Omega.{arith}
use native.Mathlib.Nat.{add-zero}
use mathlib.Core.Path.{◌≡◌, refl, sym, ap, ◌∙◌}
use Rattle.std.specs.Option.{is_some}
use Rattle.std.specs.Bool.{then_some}
use mathlib.Core.Bool.{Bool, true, false, true≢false}
use mathlib.Core.List.{List, [], ◌∷◌}
use lib.Dec.{eqb, leb, ltb}
use lib.ListN.{length, get_or}
use Rattle.arith.proofs.Cases.{by_test, by_le, by_eq}
use Rattle.rows.proofs.SegmentLaws.{segment_length}
use Rattle.rows.proofs.RowLaws.{segment_word}
use Rattle.decimal.specs.Decimal.{number_of, all_digits, decimal_from}
use Rattle.desk_lines.specs.Fields.{field_end, field_at, fields_from}
use Rattle.desk_lines.specs.Lines.{Reading, failed, left, Taken, taken_number, taken, is_dash, dash_next, taken_idle, is_finished}
use Rattle.desk_lines.specs.Parts.{Tells}
use Rattle.desk_lines.proofs.FieldLaws.{none_left, field_ends_inside, first_field}
use borrow.Author.Tests.{le-leb, lt-leb, eq-eqb, ne_eqb, lt-ltb, le-ltb}

-- A failed reading stays failed.
module _ {r : Reading} (none : r ≡ failed) where
  pub no_number_is_taken : (most : ℕ) → record { value = 0; rest = failed } ≡ taken most r
  unfolding taken
  no_number_is_taken most = rw none refl

  pub no_number : (most : ℕ) → (taken most r).rest ≡ failed
  unfolding taken
  no_number most = rw none refl

  pub no_idle_time : (taken_idle r).rest ≡ failed
  unfolding taken
  no_idle_time = rw none refl

pub ruleset stays_failed = (no_number, no_idle_time)

-- A value that a test gives is there where the test holds.
pub told_by_test : (b : Bool) → is_some (then_some b (tt {0})) ≡ b
told_by_test true = refl
told_by_test false = refl

-- A field that was a number or not, as the code has it and as the definition has it.
number_told : (o : Option ℕ) (fs : List (List ℕ)) → Tells o fs (taken_number fs o)
number_told None fs = refl
number_told (Some n) fs = refl

-- The fields that are left from a place on.
module _ (line : List ℕ) (at : ℕ) {fs : List (List ℕ)} (left' : fields_from line at ≡ fs) where
  -- Past the end of the line none is left.
  none_are : length line < at → fs ≡ []
  none_are past = sym left' ∙ none_left line at past

  -- Within it there is a field, and the next begins after it.
  one_is : at ≤ length line → fs ≡ field_at line at ∷ fields_from line (field_end line at + 1)
  one_is inside = sym left' ∙ first_field line at inside

  pub no_field_is_taken : (most : ℕ) → length line < at → record { value = 0; rest = failed } ≡ taken most (left fs)
  unfolding taken
  no_field_is_taken most past = rw (none_are past) refl

  pub number_is_taken : (most : ℕ) → at ≤ length line → {o : Option ℕ} → o ≡ number_of most (field_at line at) → {next : ℕ} → next ≡ field_end line at + 1
      → taken_number (fields_from line next) o ≡ taken most (left fs)
  unfolding taken
  number_is_taken most inside is then = rw (one_is inside, is, then) refl

  -- The same as the contract of the code tells it.
  pub no_field_is_told : (most : ℕ) → length line < at → (taken most (left fs)).rest ≡ failed
  no_field_is_told most past = sym (ap (λ (t : Taken ℕ). t.rest) (no_field_is_taken most past))

  pub number_is_told : (most : ℕ) → at ≤ length line → {o : Option ℕ} → o ≡ number_of most (field_at line at) → {next : ℕ} → next ≡ field_end line at + 1
      → Tells o (fields_from line next) (taken most (left fs))
  number_is_told most inside {o} is {next} then = rw (number_is_taken most inside is then) at (number_told o (fields_from line next))

  -- The reading is finished past the end.
  pub finished_by_place : ltb (length line) at ≡ is_finished (left fs)
  finished_by_place =
      by_le at (length line)
      (λ inside. rw (le-ltb (length line) at inside, one_is inside))
      (λ past. rw (lt-ltb (length line) at past, none_are past))

  -- A dash.
  abbrev field : List ℕ
  field = field_at line at

  field_length : at ≤ length line → length field ≡ field_end line at - at
  field_length inside = segment_length at (field_end line at - at) line (omega (arith, field_ends_inside line at inside))

  field_byte : at ≤ length line → length field ≡ 1 → get_or field 0 0 ≡ get_or line at 0
  field_byte inside one = rw add-zero at (segment_word at (field_end line at - at) line 0 (omega (arith, one, field_length inside)))

  dash_of_inside : at ≤ length line → dash_next (left fs) ≡ is_dash field
  dash_of_inside inside = rw (one_is inside)

  pub end_has_no_dash : length line ≤ at → false ≡ dash_next (left fs)
  unfolding is_dash
  end_has_no_dash past =
      by_le at (length line)
      (λ inside. rw (dash_of_inside inside, ne_eqb (length field) 1 (λ one. omega (arith, field_length inside, field_ends_inside line at inside))))
      (λ beyond. rw (none_are beyond))

  pub other_byte_is_no_dash : at < length line → (get_or line at 0 ≡ 45 → ⊥) → false ≡ dash_next (left fs)
  unfolding is_dash
  other_byte_is_no_dash inside other =
      let within : at ≤ length line = omega arith in
      rw (dash_of_inside within) (by_eq (length field) 1
      (λ one. rw (eq-eqb (length field) 1 one, ne_eqb (get_or field 0 0) 45 (λ dash. other (sym (field_byte within one) ∙ dash))))
      (λ more. rw (ne_eqb (length field) 1 more)))

  pub dash_by_end : at < length line → get_or line at 0 ≡ 45 → eqb (field_end line at) (at + 1) ≡ dash_next (left fs)
  unfolding is_dash
  dash_by_end inside is_dash =
      let within : at ≤ length line = omega arith in
      rw (dash_of_inside within) (by_eq (length field) 1
      (λ one. rw (eq-eqb (length field) 1 one, field_byte within one, eq-eqb (get_or line at 0) 45 is_dash)
      (eq-eqb (field_end line at) (at + 1) (omega (arith, one, field_length within))))
      (λ more. rw (ne_eqb (length field) 1 more) (ne_eqb (field_end line at) (at + 1) (λ e. more (omega (arith, e, field_length within))))))

  -- An idle time: after a dash the next field begins two places on; else it is what the number is.
  module _ (dash : dash_next (left fs) ≡ true) where
    pub dash_inside : at < length line
    dash_inside = by_le (length line) at (λ past. absurd (true≢false (sym dash ∙ sym (end_has_no_dash past)))) (λ inside. inside)

    dash_ends : field_end line at ≡ at + 1
    unfolding is_dash
    dash_ends =
        let inside = dash_inside in
        let within : at ≤ length line = omega arith in
        by_eq (length field) 1
        (λ one. omega (arith, one, field_length within))
        (λ more. absurd (true≢false (sym dash ∙ dash_of_inside within ∙ rw (ne_eqb (length field) 1 more))))

    pub idle_of_dash : Tells (Some None) (fields_from line (at + 2)) (taken_idle (left fs))
    idle_of_dash =
        let inside = dash_inside in
        let within : at ≤ length line = omega arith in
        let next : field_end line at + 1 ≡ at + 2 = omega (arith, dash_ends) in
        let is : fs ≡ field_at line at ∷ fields_from line (at + 2) = rw next at (one_is within) in
        let dash' : is_dash (field_at line at) ≡ true = rw is at dash in
        rw (is, dash') refl

-- A number that was taken is within its bound.
number_within : (most : ℕ) (f : List ℕ) (fs : List (List ℕ)) → (taken_number fs (number_of most f)).value ≤ most
unfolding number_of
number_within most f fs =
    by_test (leb 1 (length f))
    (λ t. by_test (leb (length f) 20)
    (λ u. by_test (all_digits f)
    (λ v. by_le (decimal_from 0 f) most
    (λ within. rw (t, u, v, le-leb (decimal_from 0 f) most within) within)
    (λ over. rw (t, u, v, lt-leb (decimal_from 0 f) most over) (omega arith)))
    (λ v. rw (t, u, v) (omega arith)))
    (λ u. rw (t, u) (omega arith)))
    (λ t. rw t (omega arith))

taken_within : (most : ℕ) (r : Reading) → (taken most r).value ≤ most
unfolding taken
taken_within most failed = omega arith
taken_within most (left []) = omega arith
taken_within most (left (f ∷ fs)) = number_within most f fs

pub value_within : (most : ℕ) (r : Reading) {t : Taken ℕ} → taken most r ≡ t → t.value ≤ most
value_within most r gave = rw (← ap (λ (t : Taken ℕ). t.value) gave) (taken_within most r)
