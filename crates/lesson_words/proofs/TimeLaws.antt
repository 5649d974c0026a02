-- Times, as the code comes to them.
use Rattle.std.specs.Bool.{⊤}
use Rattle.std.proofs.Common.{Option, Some, None, Ok, Err}
use Prim.Native.Nat.{ℕ, zero, suc, ◌+◌, ◌*◌, ◌-◌, ◌/◌, ◌^◌, ◌≤◌, ◌<◌}
use native.Mathlib.Omega.{arith}
use native.Mathlib.Nat.{add-zero, le-div_iff_mul-le, div-lt_iff_lt-mul, mul-le-mul_right, mul-le-mul_left, pow-le-pow_right}
use lib.Pow.{pow-add}
use mathlib.Core.Path.{◌≡◌, refl, sym, ap, ◌∙◌}
use mathlib.Core.Bool.{true, true≢false}
use mathlib.Core.List.{List, [], ◌∷◌}
use lib.Dec.{eqb, leb}
use lib.ListN.{length, take, drop, get_or, length-drop}
use lib.Seq.{length-take-le, take_all}
use Rattle.arith.proofs.Cases.{by_test, by_le, by_eq}
use Rattle.decimal.specs.declared.Digits.{Digits}
use Rattle.decimal.specs.Decimal.{is_digit, all_digits, front_of, digits_ahead, decimal_from}
use Rattle.decimal.proofs.ReadLaws.{ahead_within, ahead_are_digits, one_digit_more_fits, front_inside}
use Rattle.lesson_words.specs.declared.Fault.TheVariants as fault
use Rattle.lesson_words.specs.declared.times.Unit.{Unit}
use Rattle.lesson_words.specs.declared.times.Fraction.{Fraction}
use Rattle.lesson_words.specs.Words.{small}
use Rattle.lesson_words.specs.Times.{most64, one_letter, part_of_second, two_letters, three_letters, unit_of, fraction_of, no_fraction, as_fraction}
use Rattle.lesson_words.specs.Times.{product_of, quotient_of, in_nanos, most_digits, of_decimal, with_unit}
use borrow.Author.Tests.{le-leb, lt-leb, eq-eqb, ne_eqb}

-- A unit by how many bytes it has.
pub unit_of_none : (bs : List ℕ) → length bs ≡ 0 → Some (record { by = 1; tens = 0 }) ≡ unit_of bs
unfolding unit_of
unit_of_none [] is = refl
unit_of_none (a ∷ bs) is = absurd (omega arith)

pub unit_of_one : (bs : List ℕ) → length bs ≡ 1 → one_letter (small (get_or bs 0 0)) ≡ unit_of bs
unfolding unit_of
unit_of_one [] is = absurd (omega arith)
unit_of_one (a ∷ []) is = refl
unit_of_one (a ∷ b ∷ bs) is = absurd (omega arith)

pub unit_of_two : (bs : List ℕ) → length bs ≡ 2 → two_letters (small (get_or bs 0 0)) (small (get_or bs 1 0)) ≡ unit_of bs
unfolding unit_of
unit_of_two [] is = absurd (omega arith)
unit_of_two (a ∷ []) is = absurd (omega arith)
unit_of_two (a ∷ b ∷ []) is = refl
unit_of_two (a ∷ b ∷ c ∷ bs) is = absurd (omega arith)

pub unit_of_three : (bs : List ℕ) → length bs ≡ 3 → three_letters (small (get_or bs 0 0)) (small (get_or bs 1 0)) (small (get_or bs 2 0)) ≡ unit_of bs
unfolding unit_of
unit_of_three [] is = absurd (omega arith)
unit_of_three (a ∷ []) is = absurd (omega arith)
unit_of_three (a ∷ b ∷ []) is = absurd (omega arith)
unit_of_three (a ∷ b ∷ c ∷ []) is = refl
unit_of_three (a ∷ b ∷ c ∷ d ∷ bs) is = absurd (omega arith)

pub unit_of_more : (bs : List ℕ) → 3 < length bs → None ≡ unit_of bs
unfolding unit_of
unit_of_more [] is = absurd (omega arith)
unit_of_more (a ∷ []) is = absurd (omega arith)
unit_of_more (a ∷ b ∷ []) is = absurd (omega arith)
unit_of_more (a ∷ b ∷ c ∷ []) is = absurd (omega arith)
unit_of_more (a ∷ b ∷ c ∷ d ∷ bs) is = refl

-- A unit is at most an hour.
pub record Small (u : Unit) : Type 0 where
  pub by_some : 0 < u.by
  pub by_small : u.by ≤ 36
  pub tens_small : u.tens ≤ 11

abbrev pub SmallIf : Option Unit → Type 0
SmallIf (Some u) = Small u
SmallIf None = ⊤

one_small : (a : ℕ) → SmallIf (one_letter a)
unfolding one_letter
one_small a =
    by_test (eqb a 115)
    (λ t. rw t (record { by_some = omega arith; by_small = omega arith; tens_small = omega arith }))
    (λ t. by_test (eqb a 104)
    (λ u. rw (t, u) (record { by_some = omega arith; by_small = omega arith; tens_small = omega arith }))
    (λ u. rw (t, u) tt))

part_small : (a : ℕ) → SmallIf (part_of_second a)
unfolding part_of_second
part_small a =
    by_test (eqb a 110)
    (λ t. rw t (record { by_some = omega arith; by_small = omega arith; tens_small = omega arith }))
    (λ t. by_test (eqb a 117)
    (λ u. rw (t, u) (record { by_some = omega arith; by_small = omega arith; tens_small = omega arith }))
    (λ u. by_test (eqb a 109)
    (λ v. rw (t, u, v) (record { by_some = omega arith; by_small = omega arith; tens_small = omega arith }))
    (λ v. rw (t, u, v) tt)))

two_small : (a b : ℕ) → SmallIf (two_letters a b)
unfolding two_letters
two_small a b = by_test (eqb b 115) (λ t. rw t (part_small a)) (λ t. rw t tt)

three_small : (a b c : ℕ) → SmallIf (three_letters a b c)
unfolding three_letters
three_small a b c =
    by_test (eqb a 109)
    (λ t. by_test (eqb b 105)
    (λ u. by_test (eqb c 110)
    (λ v. rw (t, u, v) (record { by_some = omega arith; by_small = omega arith; tens_small = omega arith }))
    (λ v. rw (t, u, v) tt))
    (λ u. rw (t, u) tt))
    (λ t. rw t tt)

pub unit_small : (bs : List ℕ) → SmallIf (unit_of bs)
unfolding unit_of
unit_small [] = record { by_some = omega arith; by_small = omega arith; tens_small = omega arith }
unit_small (a ∷ []) = one_small (small a)
unit_small (a ∷ b ∷ []) = two_small (small a) (small b)
unit_small (a ∷ b ∷ c ∷ []) = three_small (small a) (small b) (small c)
unit_small (a ∷ b ∷ c ∷ d ∷ bs) = tt

-- A product, by a test that needs no wider number.
module _ (n by : ℕ) (some : 0 < by) where
  pub product_fits : n ≤ most64 / by → n * by ≤ most64
  product_fits few = (le-div_iff_mul-le some).0 few

  pub product_is : n ≤ most64 / by → Ok (n * by) ≡ product_of n by
  unfolding product_of
  product_is few = rw (le-leb (n * by) most64 (product_fits few))

  pub product_is_far : most64 / by < n → Err fault.Far ≡ product_of n by
  unfolding product_of
  product_is_far many = rw (lt-leb (n * by) most64 ((div-lt_iff_lt-mul some).0 many))

-- Digits before and after a point as one number have as many digits as both.
pub digits_fit : (w e f k : ℕ) → w < 10 ^ e → f < 10 ^ k → w * 10 ^ k + f < 10 ^ (e + k)
digits_fit w e f k whole part =
    let more : (w + 1) * 10 ^ k ≤ 10 ^ e * 10 ^ k = mul-le-mul_right (10 ^ k) (omega arith) in
    rw (pow-add 10 e k) (omega arith)

pub fewer_fit : (n k m : ℕ) → n < 10 ^ k → k ≤ m → n < 10 ^ m
fewer_fit n k m fits few = omega (arith, pow-le-pow_right {n = 10} (omega arith) few)

-- Digits are a number below that power of ten.
digit_at_most : (b : ℕ) → is_digit b ≡ true → b ≤ 57
unfolding is_digit
digit_at_most b one =
    by_le b 57 (λ within. within) (λ over. by_test (leb 48 b)
    (λ t. absurd (true≢false (sym one ∙ rw (t, lt-leb b 57 over))))
    (λ t. absurd (true≢false (sym one ∙ rw t))))

digits_small : (n k : ℕ) (bs : List ℕ) → n < 10 ^ k → all_digits bs ≡ true → decimal_from n bs < 10 ^ (k + length bs)
unfolding decimal_from all_digits
digits_small n k [] fits digits = rw add-zero fits
digits_small n k (b ∷ bs) fits digits =
    by_test (is_digit b)
    (λ one.
    let next = digits_small (10 * n + (b - 48)) (k + 1) bs (one_digit_more_fits n k b fits (digit_at_most b one)) (rw one at digits) in
    let same : k + 1 + length bs ≡ k + length (b ∷ bs) = omega arith in
    rw same at next)
    (λ other. absurd (true≢false (sym (rw other at digits))))

pub record FrontFits (from : ℕ) (d : Digits) (size : ℕ) : Type 0 where
  pub begun : from ≤ d.end
  pub inside : d.end ≤ size
  pub few : d.end - from ≤ 19
  pub small : d.value < 10 ^ (d.end - from)

pub front_fits : (bytes : List ℕ) (from : ℕ) {d : Digits} → from ≤ length bytes → d ≡ front_of bytes from → FrontFits from d (length bytes)
front_fits bytes from {d} within is =
    let k = digits_ahead 19 (drop from bytes) in
    let ahead = ahead_within 19 (drop from bytes) in
    let ends : d.end ≡ from + k = ap (λ (f : Digits). f.end) is in
    let size : length (take k (drop from bytes)) ≡ k = length-take-le k (drop from bytes) ahead.1 in
    let value : d.value ≡ decimal_from 0 (take k (drop from bytes)) = ap (λ (f : Digits). f.value) is in
    let many : d.end - from ≡ 0 + length (take k (drop from bytes)) = omega (arith, ends, size) in
    let inside' = front_inside bytes from within is in
    record {
      begun = inside'.0;
      inside = inside'.1;
      few = omega (arith, ends, ahead.0);
      small = rw (many, value) (digits_small 0 0 (take k (drop from bytes)) (omega arith) (ahead_are_digits 19 (drop from bytes)));
    }

pub record FractionFits (f : Fraction) (size : ℕ) : Type 0 where
  pub inside : f.end ≤ size
  pub few : f.places ≤ 19
  pub small : f.value < 10 ^ f.places

-- Past the end no byte is a point.
get_d_past : (l : List ℕ) (i d : ℕ) → length l ≤ i → get_or l i d ≡ d
get_d_past [] i d past = refl
get_d_past (x ∷ l) zero d past = absurd (omega arith)
get_d_past (x ∷ l) (suc i) d past = get_d_past l i d (omega arith)

none_is_no_point : (b : ℕ) → b ≡ 0 → b ≡ 46 → ⊥
none_is_no_point b none e = omega arith

module _ (word : List ℕ) (end : ℕ) (within : end ≤ length word) where
  pub no_fraction_at_end : end ≡ length word → no_fraction end ≡ fraction_of word end
  unfolding fraction_of
  no_fraction_at_end last =
      rw (ne_eqb (get_or word end 0) 46 (none_is_no_point (get_or word end 0) (get_d_past word end 0 (omega arith))))

  pub fraction_at_point : get_or word end 0 ≡ 46 → {d : Digits} → d ≡ front_of word (end + 1) → as_fraction (end + 1) d ≡ fraction_of word end
  unfolding fraction_of
  fraction_at_point point is = rw (eq-eqb (get_or word end 0) 46 point, is)

  pub no_fraction_at_another : (get_or word end 0 ≡ 46 → ⊥) → no_fraction end ≡ fraction_of word end
  unfolding fraction_of
  no_fraction_at_another other = rw (ne_eqb (get_or word end 0) 46 other)

  pub fraction_fits : {f : Fraction} → f ≡ fraction_of word end → FractionFits f (length word)
  fraction_fits is =
      by_eq (get_or word end 0) 46
      (λ point.
      let inside : end < length word =
      by_le (length word) end (λ past. absurd (none_is_no_point (get_or word end 0) (get_d_past word end 0 past) point)) (λ h. h) in
      let fits = front_fits word (end + 1) (omega arith) refl in
      rw (is ∙ sym (fraction_at_point point refl)) (record { inside = fits.inside; few = fits.few; small = fits.small }))
      (λ other. rw (is ∙ sym (no_fraction_at_another other)) (record { inside = within; few = omega arith; small = omega arith }))

-- Powers of ten: by one more, and what bounds them.
pub one_power_more : (i : ℕ) → 10 ^ i * 10 ≡ 10 ^ (i + 1)
one_power_more i = sym (pow-add 10 i 1)

pub power_at_most : (i m : ℕ) → i ≤ m → 10 ^ i ≤ 10 ^ m
power_at_most i m few = pow-le-pow_right {n = 10} (omega arith) few

pub power_fits : (i : ℕ) → i ≤ 17 → 10 ^ i < 2 ^ 64
power_fits i few = omega (arith, power_at_most i 17 few)

pub power_positive : (i : ℕ) → 0 < 10 ^ i
power_positive i = omega (arith, power_at_most 0 i (omega arith))

-- A number of units, by the tests of the code.
module _ (digits places : ℕ) (u : Unit) where
  pub units_multiplied : places ≤ u.tens → product_of digits (u.by * 10 ^ (u.tens - places)) ≡ in_nanos digits places u
  unfolding in_nanos
  units_multiplied few = rw (le-leb places u.tens few)

  pub units_divided : u.tens < places → quotient_of (digits * u.by) (10 ^ (places - u.tens)) ≡ in_nanos digits places u
  unfolding in_nanos
  units_divided many = rw (lt-leb places u.tens many)

module _ (whole : Digits) (f : Fraction) (u : Unit) where
  abbrev count : ℕ
  count = whole.end + f.places

  pub no_digits : count ≡ 0 → Err fault.Time ≡ of_decimal whole f u
  unfolding of_decimal
  no_digits none = rw (eq-eqb count 0 none)

  pub too_many_digits : (count ≡ 0 → ⊥) → most_digits < count → Err fault.Long ≡ of_decimal whole f u
  unfolding of_decimal
  too_many_digits some many = rw (ne_eqb count 0 some, lt-leb count most_digits many)

  pub digits_in_nanos : (count ≡ 0 → ⊥) → count ≤ most_digits
      → in_nanos (whole.value * 10 ^ f.places + f.value) f.places u ≡ of_decimal whole f u
  unfolding of_decimal
  digits_in_nanos some few = rw (ne_eqb count 0 some, le-leb count most_digits few)

-- Where the bytes after the digits are no unit, the word is no time.
pub no_unit : (word : List ℕ) → None ≡ unit_of (drop (fraction_of word (front_of word 0).end).end word) → Err fault.Time ≡ with_unit word
no_unit word none = rw (sym none)

-- A unit's factor, and digits times it, fit.
pub factor_fits : (by k : ℕ) → by ≤ 36 → k ≤ 11 → by * 10 ^ k ≤ 36 * 10 ^ 11
factor_fits by k small few =
    let first : by * 10 ^ k ≤ 36 * 10 ^ k = mul-le-mul_right (10 ^ k) small in
    omega (arith, power_at_most k 11 few)

pub factor_positive : (by k : ℕ) → 0 < by → 0 < by * 10 ^ k
factor_positive by k some =
    let first : 1 * 10 ^ k ≤ by * 10 ^ k = mul-le-mul_right (10 ^ k) (omega arith) in
    omega (arith, power_positive k)

pub digits_times_unit : (digits by : ℕ) → digits < 10 ^ 17 → by ≤ 36 → digits * by ≤ 10 ^ 17 * 36
digits_times_unit digits by few small =
    let first : digits * by ≤ digits * 36 = mul-le-mul_left digits small in
    omega arith

pub all_digits_fit : (whole : Digits) (f : Fraction) → whole.value < 10 ^ whole.end → f.value < 10 ^ f.places → whole.end + f.places ≤ 17
    → whole.value * 10 ^ f.places + f.value < 10 ^ 17
all_digits_fit whole f first second few =
    fewer_fit (whole.value * 10 ^ f.places + f.value) (whole.end + f.places) 17
    (digits_fit whole.value whole.end f.value f.places first second) few

-- The bytes from a place to the end.
pub rest_is_dropped : (w : List ℕ) (e : ℕ) → take (length w - e) (drop e w) ≡ drop e w
rest_is_dropped w e = take_all (length w - e) (drop e w) (omega (arith, length-drop e w))

pub unit_is_small : (bs : List ℕ) {u : Unit} → Some u ≡ unit_of bs → Small u
unit_is_small bs is = rw (← is) at (unit_small bs)

-- The digits that a word begins with.
pub record WholeFits (d : Digits) (size : ℕ) : Type 0 where
  pub inside : d.end ≤ size
  pub few : d.end ≤ 19
  pub small : d.value < 10 ^ d.end

pub whole_fits_lem : (word : List ℕ) {d : Digits} → d ≡ front_of word 0 → WholeFits d (length word)
whole_fits_lem word {d} is =
    let fits = front_fits word 0 (omega arith) is in
    let same : d.end - 0 ≡ d.end = omega arith in
    record { inside = fits.inside; few = omega (arith, fits.few); small = rw same at fits.small }
