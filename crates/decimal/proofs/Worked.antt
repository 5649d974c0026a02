-- Fields read and numbers written, computed from the definitions.
use Rattle.std.proofs.Common.{Some, None}
use Prim.Native.Nat.{◌-◌, ◌^◌}
use mathlib.Core.Path.{◌≡◌, refl}
use mathlib.Core.List.{[], ◌∷◌}
use Rattle.decimal.specs.Decimal.{is_digit, all_digits, decimal_from, digits_ahead, front_of, number_of, digits_from, digits_of}

-- "007"
pub zeros_in_front : number_of (2 ^ 32 - 1) (48 ∷ 48 ∷ 55 ∷ []) ≡ Some 7
unfolding is_digit all_digits decimal_from number_of
zeros_in_front = refl

-- "18446744073709551615", the most of 64 bits
pub most_of_64_bits : number_of (2 ^ 64 - 1) (49 ∷ 56 ∷ 52 ∷ 52 ∷ 54 ∷ 55 ∷ 52 ∷ 52 ∷ 48 ∷ 55 ∷ 51 ∷ 55 ∷ 48 ∷ 57 ∷ 53 ∷ 53 ∷ 49 ∷ 54 ∷ 49 ∷ 53 ∷ [])
    ≡ Some (2 ^ 64 - 1)
unfolding is_digit all_digits decimal_from number_of
most_of_64_bits = refl

-- "18446744073709551616", one more
pub past_64_bits : number_of (2 ^ 64 - 1) (49 ∷ 56 ∷ 52 ∷ 52 ∷ 54 ∷ 55 ∷ 52 ∷ 52 ∷ 48 ∷ 55 ∷ 51 ∷ 55 ∷ 48 ∷ 57 ∷ 53 ∷ 53 ∷ 49 ∷ 54 ∷ 49 ∷ 54 ∷ []) ≡ None
unfolding is_digit all_digits decimal_from number_of
past_64_bits = refl

-- "4294967296", one more than the most of 32 bits
pub past_32_bits : number_of (2 ^ 32 - 1) (52 ∷ 50 ∷ 57 ∷ 52 ∷ 57 ∷ 54 ∷ 55 ∷ 50 ∷ 57 ∷ 54 ∷ []) ≡ None
unfolding is_digit all_digits decimal_from number_of
past_32_bits = refl

-- 21 zeros
pub twenty_one_digits : number_of (2 ^ 64 - 1) (48 ∷ 48 ∷ 48 ∷ 48 ∷ 48 ∷ 48 ∷ 48 ∷ 48 ∷ 48 ∷ 48 ∷ 48 ∷ 48 ∷ 48 ∷ 48 ∷ 48 ∷ 48 ∷ 48 ∷ 48 ∷ 48 ∷ 48 ∷ 48 ∷ [])
    ≡ None
unfolding is_digit all_digits decimal_from number_of
twenty_one_digits = refl

-- "1:"
pub a_colon : number_of (2 ^ 64 - 1) (49 ∷ 58 ∷ []) ≡ None
unfolding is_digit all_digits decimal_from number_of
a_colon = refl

-- An empty field
pub no_digits : number_of (2 ^ 64 - 1) [] ≡ None
unfolding number_of
no_digits = refl

-- "12 3": a front of two digits, which the space ends.
pub front_before_a_space : front_of (49 ∷ 50 ∷ 32 ∷ 51 ∷ []) 0 ≡ record { value = 12; end = 2 }
unfolding is_digit decimal_from digits_ahead
front_before_a_space = refl

-- "12 3" from the 3 on, which the end of the bytes ends.
pub front_before_the_end : front_of (49 ∷ 50 ∷ 32 ∷ 51 ∷ []) 3 ≡ record { value = 3; end = 4 }
unfolding is_digit decimal_from digits_ahead
front_before_the_end = refl

pub digits_of_zero : digits_of 0 ≡ 48 ∷ []
unfolding digits_from
digits_of_zero = refl

-- "1024"
pub digits_of_1024 : digits_of 1024 ≡ 49 ∷ 48 ∷ 50 ∷ 52 ∷ []
unfolding digits_from
digits_of_1024 = refl

pub digits_of_the_most : digits_of (2 ^ 64 - 1) ≡ 49 ∷ 56 ∷ 52 ∷ 52 ∷ 54 ∷ 55 ∷ 52 ∷ 52 ∷ 48 ∷ 55 ∷ 51 ∷ 55 ∷ 48 ∷ 57 ∷ 53 ∷ 53 ∷ 49 ∷ 54 ∷ 49 ∷ 53 ∷ []
unfolding digits_from
digits_of_the_most = refl
