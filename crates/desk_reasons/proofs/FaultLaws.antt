-- What is wrong with a field, as the code comes to it.
use Prim.Native.Nat.{ℕ, ◌+◌, ◌≤◌, ◌<◌}
use native.Mathlib.Omega.{arith}
use native.Mathlib.Numerals.{add-one}
use mathlib.Core.Path.{◌≡◌}
use mathlib.Core.Bool.{true, false}
use mathlib.Core.List.{List}
use lib.Dec.{ltb}
use lib.ListN.{length, get_or, drop, drop_of_length-le}
use lib.Seq.{drop-cons}
use Rattle.scan.specs.Bytes.{index_of, slice}
use Rattle.decimal.specs.Decimal.{is_digit, all_digits}
use Rattle.desk_lines.proofs.FieldLaws.{found_from}
use Rattle.desk_reasons.specs.declared.Fault.{Fault}
use Rattle.desk_reasons.specs.declared.Fault.TheVariants as fault
use Rattle.desk_reasons.specs.Reasons.{has, seen, number_fault}
use borrow.Author.Tests.{eq-eqb, ne_eqb, le-leb, lt-leb}

module _ (f : List ℕ) where
  pub has_by_search : (b : ℕ) {r : ℕ} → r ≡ 0 + index_of b (slice 0 (length f) f) → ltb r (length f) ≡ has b f
  unfolding has
  has_by_search b {r} found = let is : r ≡ index_of b f = omega (arith, found_from b f 0 found) in rw is

  -- At sight.
  module _ (otherwise : Fault) where
    pub seen_empty : length f ≡ 0 → fault.Empty ≡ seen f otherwise
    unfolding seen
    seen_empty none = rw (eq-eqb _ _ none)

    module _ (some : length f ≡ 0 → ⊥) where
      pub seen_return : has 13 f ≡ true → fault.Return ≡ seen f otherwise
      unfolding seen
      seen_return is = rw (ne_eqb _ _ some, is)

      pub seen_tab : has 13 f ≡ false → has 9 f ≡ true → fault.Tab ≡ seen f otherwise
      unfolding seen
      seen_tab other is = rw (ne_eqb _ _ some, other, is)

      pub seen_other : has 13 f ≡ false → has 9 f ≡ false → otherwise ≡ seen f otherwise
      unfolding seen
      seen_other other another = rw (ne_eqb _ _ some, other, another)

  -- Digits that are no number.
  module _ (most : ℕ) where
    pub number_large : all_digits f ≡ true → length f ≤ 20 → fault.Large most ≡ number_fault most f
    unfolding number_fault
    number_large digits few = rw (digits, le-leb _ _ few)

    pub number_long : all_digits f ≡ true → 20 < length f → fault.Long ≡ number_fault most f
    unfolding number_fault
    number_long digits many = rw (digits, lt-leb _ _ many)

    pub number_of_others : all_digits f ≡ false → fault.Digits ≡ number_fault most f
    unfolding number_fault
    number_of_others other = rw other

  -- All bytes are digits if the first is one and the others are.
  pub none_left : (i : ℕ) → length f ≤ i → all_digits (drop i f) ≡ true
  unfolding all_digits
  none_left i past = rw (drop_of_length-le f past)

  module _ (i : ℕ) (inside : i < length f) where
    pub digit_goes_on : is_digit (get_or f i 0) ≡ true → all_digits (drop (i + 1) f) ≡ all_digits (drop i f)
    unfolding all_digits
    digit_goes_on one = rw (drop-cons f i 0 inside, one, add-one)

    pub other_ends : is_digit (get_or f i 0) ≡ false → false ≡ all_digits (drop i f)
    unfolding all_digits
    other_ends none = rw (drop-cons f i 0 inside, none)
