-- What is read of a field byte by byte.
use Rattle.std.proofs.Common.{Some, None}
use Rattle.std.specs.Char.{is_ascii_digit}
use Prim.Native.Nat.{ℕ, zero, suc, ◌+◌, ◌*◌, ◌-◌, ◌^◌, ◌≤◌, ◌<◌}
use native.Mathlib.Numerals.{add-one}
use native.Mathlib.Nat.{add-zero, pow-suc, pow-le-pow_right}
use native.Mathlib.Omega.{arith}
use mathlib.Core.Bool.{Bool, cond, ◌&&◌, true, false, true≢false}
use mathlib.Core.List.{List, [], ◌∷◌, ◌++◌}
use mathlib.Core.Path.{◌≡◌, refl, ap, sym, ◌∙◌}
use lib.Dec.{leb}
use lib.ListN.{length, take, drop, get_or, drop_of_length-le, length-drop}
use lib.Seq.{take_all, take-suc, drop-cons}
use Rattle.arith.proofs.Cases.{by_test, by_le}
use Rattle.decimal.specs.declared.Digits.{Digits}
use Rattle.decimal.specs.Decimal.{is_digit, all_digits, decimal_from, digits_ahead, front_from, front_of, at_most, number_of}
use borrow.Author.Tests.{le-leb, lt-leb}

-- A field of no byte or of more than 20 is no number; any other is one if all its bytes are digits.
module _ (most : ℕ) (bs : List ℕ) where
  pub empty_is_no_number : length bs < 1 → None ≡ number_of most bs
  unfolding number_of
  empty_is_no_number few = rw (lt-leb 1 (length bs) few)

  pub long_is_no_number : 20 < length bs → None ≡ number_of most bs
  unfolding number_of
  long_is_no_number many =
      let some : 1 ≤ length bs = omega arith in
      rw (le-leb 1 (length bs) some, lt-leb (length bs) 20 many)

  module _ (some : 1 ≤ length bs) (few : length bs ≤ 20) where
    pub digits_are_a_number : all_digits bs ≡ true → number_of most bs ≡ at_most most (decimal_from 0 bs)
    unfolding number_of
    digits_are_a_number all = rw (le-leb 1 (length bs) some, le-leb (length bs) 20 few, all)

    other_is_no_number : all_digits bs ≡ false → number_of most bs ≡ None
    unfolding number_of
    other_is_no_number other = rw (le-leb 1 (length bs) some, le-leb (length bs) 20 few, other)

-- Which bytes are digits.
pub digit : (b : ℕ) → 48 ≤ b → b ≤ 57 → is_digit b ≡ true
unfolding is_digit
digit b low high = rw (le-leb 48 b low, le-leb b 57 high)

-- std's digits are the same bytes.
both : (a b : Bool) → (a && b) ≡ cond a b false
both true b = refl
both false b = refl

pub digit_as_std : (b : ℕ) {answer verdict : Bool} → answer ≡ is_ascii_digit b → answer ≡ verdict → is_digit b ≡ verdict
unfolding is_digit
digit_as_std b is so = sym (both (leb 48 b) (leb b 57)) ∙ sym is ∙ so

-- Digits in front: no more than are asked for and than there are bytes; and all of them digits.
pub ahead_within : (left : ℕ) (bs : List ℕ) → (digits_ahead left bs ≤ left) × (digits_ahead left bs ≤ length bs)
unfolding digits_ahead
ahead_within zero bs = (omega arith, omega arith)
ahead_within (suc left) [] = (omega arith, omega arith)
ahead_within (suc left) (b ∷ bs) =
    let fewer = ahead_within left bs in
    by_test (is_digit b) (λ t. rw t (omega arith, omega arith)) (λ t. rw t (omega arith, omega arith))

pub ahead_are_digits : (left : ℕ) (bs : List ℕ) → all_digits (take (digits_ahead left bs) bs) ≡ true
unfolding digits_ahead all_digits
ahead_are_digits zero bs = refl
ahead_are_digits (suc left) [] = refl
ahead_are_digits (suc left) (b ∷ bs) = by_test (is_digit b) (λ t. rw (t, t) (ahead_are_digits left bs)) (λ t. rw t)

-- Where fewer are in front than are asked for, the next byte is no digit.
next_is_no_digit : (left : ℕ) (bs : List ℕ) → digits_ahead left bs < left → digits_ahead left bs < length bs
    → is_digit (get_or bs (digits_ahead left bs) 0) ≡ false
unfolding digits_ahead
next_is_no_digit zero bs fewer inside = absurd (omega arith)
next_is_no_digit (suc left) [] fewer inside = absurd (omega arith)
next_is_no_digit (suc left) (b ∷ bs) fewer inside =
    by_test (is_digit b)
    (λ t. rw t (next_is_no_digit left bs (omega (arith, rw t at fewer)) (omega (arith, rw t at inside))))
    (λ t. rw (t, t))

-- Bytes of which one is no digit are no digits.
one_is_no_digit : (bs : List ℕ) (i : ℕ) → i < length bs → is_digit (get_or bs i 0) ≡ false → all_digits bs ≡ false
unfolding all_digits
one_is_no_digit [] i inside other = absurd (omega arith)
one_is_no_digit (b ∷ bs) zero inside other = rw other
one_is_no_digit (b ∷ bs) (suc i) inside other = by_test (is_digit b) (λ t. rw (t, one_is_no_digit bs i (omega arith) other)) (λ t. rw t)

none_ahead : (left b : ℕ) (bs : List ℕ) → is_digit b ≡ false → digits_ahead left (b ∷ bs) ≡ 0
unfolding digits_ahead
none_ahead zero b bs other = refl
none_ahead (suc left) b bs other = rw other

none_ahead_of_none : (left : ℕ) → digits_ahead left [] ≡ 0
unfolding digits_ahead
none_ahead_of_none zero = refl
none_ahead_of_none (suc left) = refl

-- A front after which nothing follows is the one reached; a digit in front is one digit more.
module _ (n : ℕ) (bytes : List ℕ) (i left : ℕ) where
  pub front_full : left ≡ 0 → front_from n i left (drop i bytes) ≡ record { value = n; end = i }
  unfolding digits_ahead decimal_from
  front_full none = rw (none, add-zero)

  pub front_of_all : length bytes ≤ i → front_from n i left (drop i bytes) ≡ record { value = n; end = i }
  unfolding decimal_from
  front_of_all past = rw (drop_of_length-le bytes past, none_ahead_of_none left, add-zero)

  pub front_ends : i < length bytes → is_digit (get_or bytes i 0) ≡ false → front_from n i left (drop i bytes) ≡ record { value = n; end = i }
  unfolding decimal_from
  front_ends inside other = rw (drop-cons bytes i 0, none_ahead left (get_or bytes i 0) (drop (suc i) bytes) other, add-zero)

  pub front_goes_on : i < length bytes → is_digit (get_or bytes i 0) ≡ true
      → front_from n i (suc left) (drop i bytes) ≡ front_from (10 * n + (get_or bytes i 0 - 48)) (i + 1) left (drop (i + 1) bytes)
  unfolding digits_ahead decimal_from
  front_goes_on inside one =
      let k = digits_ahead left (drop (suc i) bytes) in
      let further : i + suc k ≡ suc i + k = omega arith in
      rw (add-one, drop-cons bytes i 0, one, further)

-- So many digits make a number below that power of ten.
pub one_digit_more_fits : (n k b : ℕ) → n < 10 ^ k → b ≤ 57 → 10 * n + (b - 48) < 10 ^ (k + 1)
one_digit_more_fits n k b fits high = rw add-one (omega (arith, pow-suc 10 k))

pub fewer_digits_fit : (n k m : ℕ) → n < 10 ^ k → k ≤ m → n < 10 ^ m
fewer_digits_fit n k m fits few = omega (arith, pow-le-pow_right {n = 10} (omega arith) few)

-- One digit more at the end.
pub all_digits_but_last : (bs : List ℕ) (b : ℕ) → is_digit b ≡ true → all_digits (bs ++ (b ∷ [])) ≡ all_digits bs
unfolding all_digits
all_digits_but_last [] b one = rw one
all_digits_but_last (x ∷ bs) b one = rw (all_digits_but_last bs b one)

pub decimal_with_last : (n : ℕ) (bs : List ℕ) (b : ℕ) → decimal_from n (bs ++ (b ∷ [])) ≡ 10 * decimal_from n bs + (b - 48)
unfolding decimal_from
decimal_with_last n [] b = refl
decimal_with_last n (x ∷ bs) b = decimal_with_last (10 * n + (x - 48)) bs b

-- A field of 1 to 20 bytes by its front of up to 19 digits: the field is its front, or a byte follows that is no digit, or the 20th digit.
module _ (most : ℕ) (bs : List ℕ) (some : 1 ≤ length bs) (few : length bs ≤ 20) {d : Digits} (is_front : d ≡ front_of bs 0) where
  ends : d.end ≡ digits_ahead 19 bs
  ends = omega (arith, ap (λ (f : Digits). f.end) is_front)

  is_value : d.value ≡ decimal_from 0 (take (digits_ahead 19 bs) bs)
  is_value = ap (λ (f : Digits). f.value) is_front

  pub front_is_the_field : d.end ≡ length bs → at_most most d.value ≡ number_of most bs
  front_is_the_field whole =
      let all : take (digits_ahead 19 bs) bs ≡ bs = take_all (digits_ahead 19 bs) bs (omega (arith, ends)) in
      let digits : all_digits bs ≡ true = rw all at (ahead_are_digits 19 bs) in
      rw (is_value, all, digits_are_a_number most bs some few digits)

  module _ (more : d.end < length bs) where
    pub no_digit_follows : is_digit (get_or bs d.end 0) ≡ false → None ≡ number_of most bs
    no_digit_follows other = sym (other_is_no_number most bs some few (one_is_no_digit bs d.end more other))

    pub digit_follows : is_digit (get_or bs d.end 0) ≡ true → at_most most (10 * d.value + (get_or bs d.end 0 - 48)) ≡ number_of most bs
    digit_follows one =
        let k = digits_ahead 19 bs in
        let b = get_or bs d.end 0 in
        let nineteen : 19 ≤ k = by_le 19 k (λ h. h) (λ fewer.
        let other = next_is_no_digit 19 bs fewer (omega (arith, ends)) in absurd (true≢false (sym one ∙ rw (← ends) at other))) in
        let whole : take k bs ++ (b ∷ []) ≡ bs = rw (ends) (sym (take-suc bs k 0 (omega (arith, ends))) ∙ take_all (suc k) bs (omega arith)) in
        let digits : all_digits bs ≡ true = rw whole at (all_digits_but_last (take k bs) b one ∙ ahead_are_digits 19 bs) in
        let number : 10 * d.value + (b - 48) ≡ decimal_from 0 bs = rw is_value (rw whole at (sym (decimal_with_last 0 (take k bs) b))) in
        rw (number, digits_are_a_number most bs some few digits)

    pub too_much_follows : is_digit (get_or bs d.end 0) ≡ true → most < 10 * d.value + (get_or bs d.end 0 - 48) → None ≡ number_of most bs
    too_much_follows one over = rw (lt-leb _ _ over) at (digit_follows one)

    pub last_digit_follows : is_digit (get_or bs d.end 0) ≡ true → 10 * d.value + (get_or bs d.end 0 - 48) ≤ most
        → Some (10 * d.value + (get_or bs d.end 0 - 48)) ≡ number_of most bs
    last_digit_follows one within = rw (le-leb _ _ within) at (digit_follows one)

-- The front lies within the bytes.
pub front_inside : (bytes : List ℕ) (from : ℕ) {d : Digits} → from ≤ length bytes → d ≡ front_of bytes from → (from ≤ d.end) × (d.end ≤ length bytes)
front_inside bytes from inside is_front =
    let end = ap (λ (f : Digits). f.end) is_front in
    let within = (ahead_within 19 (drop from bytes)).1 in
    (omega arith, omega (arith, length-drop from bytes))
