-- Numbers as decimal digits. Lists of numbers below 256 stand for strings of bytes.
use Rattle.std.specs.Prelude.{ℕ, zero, suc, ◌+◌, ◌*◌, ◌-◌, ◌/◌, ◌%◌, Bool, true, false, cond, List, [], ◌∷◌, ◌++◌, leb, ltb, length, take, drop, Option, Some}
use Rattle.std.specs.Prelude.{None}
use Rattle.std.proofs.lemmas.List.Edits.{sets}
use Rattle.rows.specs.Outcome.{Outcome, outcome}
use Rattle.decimal.specs.declared.Digits.{Digits}

-- A decimal digit: a byte from `0` (48) to `9` (57).
unfoldable pub is_digit : ℕ → Bool
is_digit b = cond (leb 48 b) (leb b 57) false

unfoldable pub all_digits : List ℕ → Bool
all_digits [] = true
all_digits (b ∷ bs) = cond (is_digit b) (all_digits bs) false

-- The number that digits are, highest first, after digits that were n.
unfoldable pub decimal_from : ℕ → List ℕ → ℕ
decimal_from n [] = n
decimal_from n (b ∷ bs) = decimal_from (10 * n + (b - 48)) bs

-- How many digits some bytes begin with, up to `left` of them.
unfoldable pub digits_ahead : ℕ → List ℕ → ℕ
digits_ahead zero bs = 0
digits_ahead (suc left) [] = 0
digits_ahead (suc left) (b ∷ bs) = cond (is_digit b) (suc (digits_ahead left bs)) 0

-- The digits that some bytes begin with, up to `left` of them, after digits that were n and end at place i: the number that all are, and the place after them.
abbrev pub front_from : ℕ → ℕ → ℕ → List ℕ → Digits
front_from n i left bs = record { value = decimal_from n (take (digits_ahead left bs) bs); end = i + digits_ahead left bs }

-- The digits from a place on, up to 19.
abbrev pub front_of : List ℕ → ℕ → Digits
front_of bytes from = front_from 0 from 19 (drop from bytes)

-- A value that is at most `most` as a number. Any other is no number.
abbrev pub at_most : ℕ → ℕ → Option ℕ
at_most most n = cond (leb n most) (Some n) None

-- The number that a field is: 1 to 20 digits, zeros in front allowed, that make no more than `most`. Anything else is no number.
unfoldable pub number_of : ℕ → List ℕ → Option ℕ
number_of most bs =
    cond (leb 1 (length bs))
    (cond (leb (length bs) 20) (cond (all_digits bs) (at_most most (decimal_from 0 bs)) None) None)
    None

-- The digits of a number, highest first, with no zero in front; of 0 the one digit 0. At most `left` of them: a number with more is cut in front.
unfoldable pub digits_from : ℕ → ℕ → List ℕ
digits_from zero n = []
digits_from (suc left) n = cond (ltb n 10) ((48 + n) ∷ []) (digits_from left (n / 10) ++ ((48 + n % 10) ∷ []))

-- The digits of a number of 64 bits: 20 are enough.
abbrev pub digits_of : ℕ → List ℕ
digits_of n = digits_from 20 n

-- The digits of a number stored from a place on, and the place after them.
abbrev pub written : ℕ → ℕ → List ℕ → Outcome ℕ (List ℕ)
written place n bytes = outcome (place + length (digits_of n)) (sets bytes place (digits_of n))
