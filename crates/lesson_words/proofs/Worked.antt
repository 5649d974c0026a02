-- Worked examples: words as people write them, computed from the definitions.
use Rattle.std.proofs.Common.{Ok, Err}
use mathlib.Core.Path.{◌≡◌, refl}
use mathlib.Core.List.{[], ◌∷◌}
use Rattle.decimal.specs.Decimal as decimal
use Rattle.lesson_words.specs.declared.Fault.TheVariants as fault
use Rattle.lesson_words.specs.Words.{small}
use Rattle.lesson_words.specs.Times.{one_letter, part_of_second, two_letters, three_letters, unit_of, fraction_of, product_of, quotient_of, in_nanos}
use Rattle.lesson_words.specs.Times.{of_decimal}
use Rattle.lesson_words.specs.Times.{time_of}
use Rattle.lesson_words.specs.Addresses.{is_hex, hex_of, fits_at, all_fit, address_of}
use Rattle.lesson_words.specs.Values.{moment_of, modem_of}

-- "0.5s"
pub half_a_second : time_of (48 ∷ 46 ∷ 53 ∷ 115 ∷ []) ≡ Ok 500000000
unfolding time_of decimal.number_of decimal.all_digits decimal.is_digit decimal.digits_ahead decimal.decimal_from fraction_of unit_of one_letter small
    of_decimal in_nanos
    product_of
half_a_second = refl

-- "1.25ms"
pub a_millisecond_and_a_quarter : time_of (49 ∷ 46 ∷ 50 ∷ 53 ∷ 109 ∷ 115 ∷ []) ≡ Ok 1250000
unfolding time_of decimal.number_of decimal.all_digits decimal.is_digit decimal.digits_ahead decimal.decimal_from fraction_of unit_of two_letters part_of_second
    small
    of_decimal in_nanos product_of
a_millisecond_and_a_quarter = refl

-- "2MIN"
pub two_minutes : time_of (50 ∷ 77 ∷ 73 ∷ 78 ∷ []) ≡ Ok 120000000000
unfolding time_of decimal.number_of decimal.all_digits decimal.is_digit decimal.digits_ahead decimal.decimal_from fraction_of unit_of three_letters small
    of_decimal
    in_nanos product_of
two_minutes = refl

-- "2m" is no time.
pub m_is_no_unit : time_of (50 ∷ 109 ∷ []) ≡ Err fault.Time
unfolding time_of decimal.number_of decimal.all_digits decimal.is_digit decimal.digits_ahead decimal.decimal_from fraction_of unit_of one_letter small
    of_decimal
m_is_no_unit = refl

-- "0.5" is half a nanosecond.
pub half_a_nanosecond : time_of (48 ∷ 46 ∷ 53 ∷ []) ≡ Err fault.Split
unfolding time_of decimal.number_of decimal.all_digits decimal.is_digit decimal.digits_ahead decimal.decimal_from fraction_of unit_of of_decimal in_nanos
    quotient_of
half_a_nanosecond = refl

-- "+0.5s" at 2 s
pub half_a_second_later : moment_of 2000000000 (43 ∷ 48 ∷ 46 ∷ 53 ∷ 115 ∷ []) ≡ Ok 2500000000
unfolding moment_of time_of decimal.number_of decimal.all_digits decimal.is_digit decimal.digits_ahead decimal.decimal_from fraction_of unit_of one_letter small
    of_decimal
    in_nanos product_of
half_a_second_later = refl

-- "00:1A:2b:3c:4d:5e"
pub address_of_a_label : modem_of (48 ∷ 48 ∷ 58 ∷ 49 ∷ 65 ∷ 58 ∷ 50 ∷ 98 ∷ 58 ∷ 51 ∷ 99 ∷ 58 ∷ 52 ∷ 100 ∷ 58 ∷ 53 ∷ 101 ∷ []) ≡ Ok 112394521950
unfolding address_of all_fit fits_at is_hex hex_of small decimal.is_digit decimal.number_of decimal.all_digits
address_of_a_label = refl
