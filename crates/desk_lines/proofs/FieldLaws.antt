-- The first field of some bytes is what stands before the first space, and the rest are the fields after it.
use Prim.Native.Nat.{ℕ, zero, suc, ◌+◌, ◌-◌, ◌≤◌, ◌<◌}
use native.Mathlib.Omega.{arith}
use mathlib.Core.Path.{◌≡◌, refl, sym, ap, ◌∙◌}
use mathlib.Core.Bool.{true, false, cond, true≢false}
use mathlib.Core.List.{List, [], ◌∷◌}
use lib.Dec.{eqb, leb}
use lib.ListN.{length, take, drop, get_or, length-drop, drop_of_length-le}
use lib.Seq.{take-length, length-take-le, drop-cons, drop-drop}
use Rattle.arith.proofs.Cases.{by_test, by_le}
use Rattle.scan.specs.Bytes.{index_after, index_of, slice}
use Rattle.decimal.specs.declared.Digits.{Digits}
use Rattle.decimal.specs.Decimal.{is_digit, digits_ahead, front_of, at_most, number_of}
use Rattle.decimal.proofs.ReadLaws.{ahead_within, ahead_are_digits, digits_are_a_number}
use Rattle.desk_lines.specs.Fields.{space, fields, field_end, field_at, fields_from}
use borrow.Author.Tests.{le-leb, lt-leb, eq-eqb, ne_eqb}

until_within : (bs : List ℕ) → index_of space bs ≤ length bs
unfolding index_of index_after
until_within [] = omega arith
until_within (b ∷ bs) = by_test (eqb b space) (λ t. rw t (omega arith)) (λ t. rw t (omega (arith, until_within bs)))

-- The fields after the first.
unfoldable after_first : List ℕ → List (List ℕ)
after_first [] = []
after_first (b ∷ bs) = cond (eqb b space) (fields bs) (after_first bs)

fields_are : (bs : List ℕ) → fields bs ≡ take (index_of space bs) bs ∷ after_first bs
unfolding fields index_of index_after after_first
fields_are [] = refl
fields_are (b ∷ bs) = by_test (eqb b space) (λ t. rw t) (λ t. rw (t, fields_are bs))

-- They begin after the space, if there is one.
after_is : (bs : List ℕ) → fields_from bs (suc (index_of space bs)) ≡ after_first bs
unfolding fields_from index_of index_after after_first
after_is [] = refl
after_is (b ∷ bs) =
    by_test (eqb b space)
    (λ t. rw (t, le-leb 1 (length (b ∷ bs)) (omega arith)))
    (λ t. rw t (same_test (index_of space bs) (length bs) (fields (drop (suc (index_of space bs)) bs)) ∙ after_is bs))
  where
    same_test : (u n : ℕ) (fs : List (List ℕ)) → cond (leb (suc (suc u)) (suc n)) fs [] ≡ cond (leb (suc u) n) fs []
    same_test u n fs =
        by_le (suc u) n
        (λ within. rw (le-leb (suc u) n within, le-leb (suc (suc u)) (suc n) (omega arith)))
        (λ past. rw (lt-leb (suc u) n past, lt-leb (suc (suc u)) (suc n) (omega arith)))

-- The fields of the rest of a line are those of the line from there on.
fields_of_rest : (line : List ℕ) (from k : ℕ) → from ≤ length line → fields_from (drop from line) k ≡ fields_from line (from + k)
unfolding fields_from
fields_of_rest line from k inside =
    by_le k (length (drop from line))
    (λ within. rw (le-leb k (length (drop from line)) within, le-leb (from + k) (length line) (omega (arith, length-drop from line)), drop-drop k from line))
    (λ past. rw (lt-leb k (length (drop from line)) past, lt-leb (from + k) (length line) (omega (arith, length-drop from line))))

-- A line from a place on.
module _ (line : List ℕ) (from : ℕ) where
  -- Past the end of the line no field is left.
  pub none_left : length line < from → fields_from line from ≡ []
  unfolding fields_from
  none_left past = rw (lt-leb _ _ past)

  module _ (inside : from ≤ length line) where
    pub field_ends_inside : field_end line from ≤ length line
    field_ends_inside = omega (arith, until_within (drop from line), length-drop from line)

    inside_fields : fields_from line from ≡ fields (drop from line)
    unfolding fields_from
    inside_fields = rw (le-leb _ _ inside)

    -- Else the first field stands before the space, and the next begins after it.
    pub first_field : fields_from line from ≡ field_at line from ∷ fields_from line (field_end line from + 1)
    first_field =
        let u = index_of space (drop from line) in
        let end : field_end line from - from ≡ u = omega arith in
        let next : field_end line from + 1 ≡ from + suc u = omega arith in
        rw (end, next, ← fields_of_rest line from (suc u) inside, after_is (drop from line)) (inside_fields ∙ fields_are (drop from line))

-- A field ends at the end of the line, and at a space.
pub ends_at_end : (line : List ℕ) (place : ℕ) → place ≡ length line → true ≡ eqb (field_end line place) place
unfolding index_of index_after
ends_at_end line place end =
    let past : length line ≤ place = omega arith in
    rw (drop_of_length-le line past) (sym (eq-eqb (place + 0) place (omega arith)))

pub ends_at_space : (line : List ℕ) (place : ℕ) → place < length line → eqb (get_or line place 0) space ≡ eqb (field_end line place) place
unfolding index_of index_after
ends_at_space line place inside =
    rw (drop-cons line place 0) (by_test (eqb (get_or line place 0) space)
    (λ t. rw t (sym (eq-eqb (place + 0) place (omega arith))))
    (λ t. rw t (sym (ne_eqb (place + suc (index_of space (drop (suc place) line))) place (λ e. omega arith)))))

-- No digit is a space, so a field goes on over the digits that it begins with.
pub digit_is_no_space : (b : ℕ) → is_digit b ≡ true → eqb b space ≡ false
unfolding is_digit
digit_is_no_space b one = ne_eqb b space (λ e. true≢false (sym one ∙ ap is_digit e))

goes_over_digits : (left : ℕ) (bs : List ℕ) → index_of space bs ≡ digits_ahead left bs + index_of space (drop (digits_ahead left bs) bs)
unfolding index_of index_after digits_ahead
goes_over_digits zero bs = omega arith
goes_over_digits (suc left) [] = refl
goes_over_digits (suc left) (b ∷ bs) =
    by_test (is_digit b)
    (λ t. rw (t, digit_is_no_space b t) (omega (arith, goes_over_digits left bs)))
    (λ t. rw t (omega arith))

-- The front of a field: where a field ends at its end, it is the field.
module _ (line : List ℕ) (from : ℕ) {d : Digits} (is_front : d ≡ front_of line from) (ends : field_end line d.end ≡ d.end) where
  abbrev ahead : ℕ
  ahead = digits_ahead 19 (drop from line)

  front_ends : d.end ≡ from + ahead
  front_ends = ap (λ (f : Digits). f.end) is_front

  pub ends_with_front : field_end line from ≡ d.end
  ends_with_front =
      let there : index_of space (drop ahead (drop from line)) ≡ 0 = rw (drop-drop ahead from line, ← front_ends) (omega (arith, ends)) in
      omega (arith, goes_over_digits 19 (drop from line), front_ends, there)

  pub front_is_the_field : (most : ℕ) → from < d.end → at_most most d.value ≡ number_of most (field_at line from)
  front_is_the_field most some =
      let all : field_end line from - from ≡ ahead = omega (arith, ends_with_front, front_ends) in
      let within = ahead_within 19 (drop from line) in
      let size : length (take ahead (drop from line)) ≡ ahead = length-take-le ahead (drop from line) within.1 in
      let few = digits_are_a_number most (take ahead (drop from line)) (omega (arith, front_ends)) (omega arith) (ahead_are_digits 19 (drop from line)) in
      rw (all, few, is_front)

-- The search for a byte from a place on, in the words of the kit's `find`, which looks as far as the end of the line.
pub found_from : (b : ℕ) (line : List ℕ) (from : ℕ) {r : ℕ} → r ≡ from + index_of b (slice from (length line) line) → r ≡ from + index_of b (drop from line)
unfolding slice
found_from b line from found = rw (take-length line) at found
