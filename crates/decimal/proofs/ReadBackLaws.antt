-- The digits of a number are digits and that number, so what was written is read back.
use Rattle.std.proofs.Common.{Some}
use Prim.Native.Nat.{ℕ, zero, suc, ◌+◌, ◌/◌, ◌%◌, ◌^◌, ◌≤◌, ◌<◌}
use native.Mathlib.Omega.{arith}
use mathlib.Core.Bool.{true}
use mathlib.Core.List.{[], ◌∷◌}
use mathlib.Core.Path.{◌≡◌, refl}
use lib.ListN.{length, get_or, get_or-append}
use Rattle.arith.proofs.Cases.{by_le}
use Rattle.decimal.specs.Decimal.{all_digits, decimal_from, number_of, digits_from, digits_of}
use borrow.Author.Tests.{le-leb}
use Rattle.decimal.proofs.ReadLaws.{digits_are_a_number, digit, all_digits_but_last, decimal_with_last}
use Rattle.decimal.proofs.WriteLaws.{one_digit, more_digits, some_digits, tenth_fits, some_left, digits_count}

-- The digits of a number are digits, and are that number.
pub digits_are_digits : (left n : ℕ) → all_digits (digits_from left n) ≡ true
unfolding digits_from all_digits
digits_are_digits zero n = refl
digits_are_digits (suc left) n =
    by_le 10 n
    (λ many.
    let last = digit (48 + n % 10) (omega arith) (omega arith) in
    rw (more_digits left n many, all_digits_but_last (digits_from left (n / 10)) (48 + n % 10) last) (digits_are_digits left (n / 10)))
    (λ few. rw (one_digit left n few, all_digits, digit (48 + n) (omega arith) (omega arith)))

pub digits_are_the_number : (left n : ℕ) → n < 10 ^ left → decimal_from 0 (digits_from left n) ≡ n
unfolding digits_from decimal_from
digits_are_the_number zero n fits = omega arith
digits_are_the_number (suc left) n fits =
    by_le 10 n
    (λ many.
    let front = digits_are_the_number left (n / 10) (tenth_fits left n fits) in
    rw (more_digits left n many, decimal_with_last 0 (digits_from left (n / 10)) (48 + n % 10), front) (omega arith))
    (λ few. rw (one_digit left n few, decimal_from) (omega arith))

-- The first digit of a number that is not 0 is not 0.
pub no_zero_in_front : (left n : ℕ) → n < 10 ^ left → 1 ≤ n → 49 ≤ get_or (digits_from left n) 0 0
no_zero_in_front zero n fits some = absurd (omega arith)
no_zero_in_front (suc left) n fits some =
    by_le 10 n
    (λ many.
    let tenth = tenth_fits left n fits in
    let front : 0 < length (digits_from left (n / 10)) = some_digits left (n / 10) (some_left left (n / 10) tenth (omega arith)) in
    rw (more_digits left n many, get_or-append (digits_from left (n / 10)) ((48 + n % 10) ∷ []) 0 0 front)
    (no_zero_in_front left (n / 10) tenth (omega arith)))
    (λ few. rw (one_digit left n few) (omega arith))

-- What is written of a number of 64 bits is read back as that number.
pub digits_read_back : (n : ℕ) → n < 2 ^ 64 → (most : ℕ) → n ≤ most → number_of most (digits_of n) ≡ Some n
digits_read_back n fits most within =
    let count = digits_count n in
    let number = digits_are_a_number most (digits_of n) count.0 count.1 (digits_are_digits 20 n) in
    rw (number, digits_are_the_number 20 n (omega arith), le-leb n most within)
