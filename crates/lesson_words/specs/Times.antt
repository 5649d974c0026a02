-- A time: a number of nanoseconds, or a decimal number with a unit.
use Rattle.std.specs.Prelude.{ℕ, ◌+◌, ◌*◌, ◌-◌, ◌/◌, ◌%◌, ◌^◌, cond, List, [], ◌∷◌, eqb, leb, drop, get_or, Option, Some, None, Result, Ok, Err, ok_or}
use Rattle.decimal.specs.declared.Digits.{Digits}
use Rattle.decimal.specs.Decimal.{front_of, number_of}
use Rattle.lesson_words.specs.declared.Fault.{Fault}
use Rattle.lesson_words.specs.declared.Fault.TheVariants as fault
use Rattle.lesson_words.specs.declared.times.Unit.{Unit}
use Rattle.lesson_words.specs.declared.times.Fraction.{Fraction}
use Rattle.lesson_words.specs.Words.{small}
use Rattle.lesson_words.specs.Steps.{◌>>=◌}

-- The largest number of 64 bits.
abbrev pub most64 : ℕ
most64 = 2 ^ 64 - 1

-- A unit has `by` times ten to the power `tens` nanoseconds.
abbrev unit : ℕ → ℕ → Option Unit
unit by tens = Some (record { by = by; tens = tens })

-- `s` (115) and `h` (104).
unfoldable pub one_letter : ℕ → Option Unit
one_letter a = cond (eqb a 115) (unit 1 9) (cond (eqb a 104) (unit 36 11) None)

-- ns, us and ms: the first letter (110, 117, 109) before an s.
unfoldable pub part_of_second : ℕ → Option Unit
part_of_second a = cond (eqb a 110) (unit 1 0) (cond (eqb a 117) (unit 1 3) (cond (eqb a 109) (unit 1 6) None))

unfoldable pub two_letters : ℕ → ℕ → Option Unit
two_letters a b = cond (eqb b 115) (part_of_second a) None

-- `min` (109, 105, 110).
unfoldable pub three_letters : ℕ → ℕ → ℕ → Option Unit
three_letters a b c = cond (eqb a 109) (cond (eqb b 105) (cond (eqb c 110) (unit 6 10) None) None) None

-- The unit that some bytes are, in letters of either case. No bytes are nanoseconds.
unfoldable pub unit_of : List ℕ → Option Unit
unit_of [] = unit 1 0
unit_of (a ∷ []) = one_letter (small a)
unit_of (a ∷ b ∷ []) = two_letters (small a) (small b)
unit_of (a ∷ b ∷ c ∷ []) = three_letters (small a) (small b) (small c)
unit_of (a ∷ b ∷ c ∷ d ∷ bs) = None

-- What comes after the digits that a word begins with: if that is a point (46), the digits after it, how many they are and the place after them.
abbrev pub no_fraction : ℕ → Fraction
no_fraction end = record { value = 0; places = 0; end = end }

abbrev pub as_fraction : ℕ → Digits → Fraction
as_fraction from f = record { value = f.value; places = f.end - from; end = f.end }

unfoldable pub fraction_of : List ℕ → ℕ → Fraction
fraction_of word end = cond (eqb (get_or word end 0) 46) (as_fraction (end + 1) (front_of word (end + 1))) (no_fraction end)

-- A number of units in nanoseconds: its digits as one number, of which so many come after the point. The point is moved to the right by the unit's tens. What
-- comes after it then is a fraction of a nanosecond, and has to be nothing.
unfoldable pub product_of : ℕ → ℕ → Result ℕ Fault
product_of n by = cond (leb (n * by) most64) (Ok (n * by)) (Err fault.Far)

unfoldable pub quotient_of : ℕ → ℕ → Result ℕ Fault
quotient_of n by = cond (eqb (n % by) 0) (Ok (n / by)) (Err fault.Split)

unfoldable pub in_nanos : ℕ → ℕ → Unit → Result ℕ Fault
in_nanos digits places u =
    cond (leb places u.tens)
    (product_of digits (u.by * 10 ^ (u.tens - places)))
    (quotient_of (digits * u.by) (10 ^ (places - u.tens)))

-- The most digits that a number with a point or a unit may have.
abbrev pub most_digits : ℕ
most_digits = 17

-- A decimal number with a unit: digits, with a point among them or not, and the unit.
unfoldable pub of_decimal : Digits → Fraction → Unit → Result ℕ Fault
of_decimal whole f u =
    cond (eqb (whole.end + f.places) 0) (Err fault.Time)
    (cond (leb (whole.end + f.places) most_digits) (in_nanos (whole.value * 10 ^ f.places + f.value) f.places u) (Err fault.Long))

abbrev pub with_unit : List ℕ → Result ℕ Fault
with_unit word =
    let whole = front_of word 0 in
    let f = fraction_of word whole.end in
    ok_or (unit_of (drop f.end word)) fault.Time >>= of_decimal whole f

-- A time. A plain number is in nanoseconds; it may have 20 digits.
abbrev pub or_else : Option ℕ → Result ℕ Fault → Result ℕ Fault
or_else (Some n) v = Ok n
or_else None v = v

unfoldable pub time_of : List ℕ → Result ℕ Fault
time_of word = or_else (number_of most64 word) (with_unit word)
