-- Worked examples: lines of every kind with the smallest and the largest numbers, and buffers of three lengths.
use Prim.Native.Nat.{ℕ, ◌-◌, ◌^◌}
use mathlib.Core.Path.{◌≡◌, refl}
use mathlib.Core.List.{[], ◌∷◌}
use lib.ListN.{length}
use Rattle.units.specs.Units.{nanos_of}
use Rattle.rows.specs.Outcome.{outcome}
use Rattle.decimal.specs.Decimal.{digits_from}
use Rattle.desk_lines.specs.declared.Request.{Request}
use Rattle.desk_writer.specs.declared.DeskCall.TheVariants.{Try, Peek, Reserve, Refund, Remove}
use Rattle.desk_writer.specs.Writer.{spaced, written_line, longest_written, written}

abbrev request : ℕ → ℕ → ℕ → Request
request at key cost = record { at = nanos_of at; key = key; cost = cost }

abbrev most64 : ℕ
most64 = 2 ^ 64 - 1

abbrev most32 : ℕ
most32 = 2 ^ 32 - 1

-- "a 0 0 0"
pub smallest_try : written_line (Try (request 0 0 0)) ≡ 97 ∷ 32 ∷ 48 ∷ 32 ∷ 48 ∷ 32 ∷ 48 ∷ 10 ∷ []
unfolding digits_from spaced
smallest_try = refl

-- "p 500000000 7 1"
pub peek_line : written_line (Peek (request 500000000 7 1)) ≡ 112 ∷ 32 ∷ 53 ∷ 48 ∷ 48 ∷ 48 ∷ 48 ∷ 48 ∷ 48 ∷ 48 ∷ 48 ∷ 32 ∷ 55 ∷ 32 ∷ 49 ∷ 10 ∷ []
unfolding digits_from spaced
peek_line = refl

-- "r 0 0 0 0"
pub smallest_reserve : written_line (Reserve (request 0 0 0) (nanos_of 0)) ≡ 114 ∷ 32 ∷ 48 ∷ 32 ∷ 48 ∷ 32 ∷ 48 ∷ 32 ∷ 48 ∷ 10 ∷ []
unfolding digits_from spaced
smallest_reserve = refl

-- "r 500000000 7 3 1000000000"
pub reserve_line : written_line (Reserve (request 500000000 7 3) (nanos_of 1000000000))
    ≡ 114 ∷ 32 ∷ 53 ∷ 48 ∷ 48 ∷ 48 ∷ 48 ∷ 48 ∷ 48 ∷ 48 ∷ 48 ∷ 32 ∷ 55 ∷ 32 ∷ 51 ∷ 32 ∷ 49 ∷ 48 ∷ 48 ∷ 48 ∷ 48 ∷ 48 ∷ 48 ∷ 48 ∷ 48 ∷ 48 ∷ 10 ∷ []
unfolding digits_from spaced
reserve_line = refl

-- "f 10 9"
pub refund_line : written_line (Refund 10 9) ≡ 102 ∷ 32 ∷ 49 ∷ 48 ∷ 32 ∷ 57 ∷ 10 ∷ []
unfolding digits_from spaced
refund_line = refl

-- "f 18446744073709551615 4294967295"
pub largest_refund : written_line (Refund most64 most32)
    ≡ 102 ∷ 32 ∷ 49 ∷ 56 ∷ 52 ∷ 52 ∷ 54 ∷ 55 ∷ 52 ∷ 52 ∷ 48 ∷ 55 ∷ 51 ∷ 55 ∷ 48 ∷ 57 ∷ 53 ∷ 53 ∷ 49 ∷ 54 ∷ 49 ∷ 53 ∷ 32 ∷ 52 ∷ 50 ∷ 57 ∷ 52 ∷ 57 ∷ 54 ∷ 55 ∷ 50
    ∷ 57 ∷ 53 ∷ 10 ∷ []
unfolding digits_from spaced
largest_refund = refl

-- "d 0"
pub smallest_remove : written_line (Remove 0) ≡ 100 ∷ 32 ∷ 48 ∷ 10 ∷ []
unfolding digits_from spaced
smallest_remove = refl

-- The longest line of each kind. That of a reservation is the longest of all.
pub longest_try : length (written_line (Try (request most64 most64 most32))) ≡ 55
unfolding digits_from spaced
longest_try = refl

pub longest_peek : length (written_line (Peek (request most64 most64 most32))) ≡ 55
unfolding digits_from spaced
longest_peek = refl

pub longest_reserve : length (written_line (Reserve (request most64 most64 most32) (nanos_of most64))) ≡ longest_written
unfolding digits_from spaced
longest_reserve = refl

pub longest_refund : length (written_line (Refund most64 most32)) ≡ 34
unfolding digits_from spaced
longest_refund = refl

pub longest_remove : length (written_line (Remove most64)) ≡ 23
unfolding digits_from spaced
longest_remove = refl

-- "d 7" in a buffer one byte short, in one that just fits, and in a longer one.
pub one_byte_short : written (Remove 7) (1 ∷ 2 ∷ 3 ∷ []) ≡ outcome (record { number = 13; size = 0 }) (1 ∷ 2 ∷ 3 ∷ [])
unfolding digits_from spaced written
one_byte_short = refl

pub just_fitting : written (Remove 7) (1 ∷ 2 ∷ 3 ∷ 4 ∷ []) ≡ outcome (record { number = 0; size = 4 }) (100 ∷ 32 ∷ 55 ∷ 10 ∷ [])
unfolding digits_from spaced written
just_fitting = refl

pub longer : written (Remove 7) (1 ∷ 2 ∷ 3 ∷ 4 ∷ 5 ∷ 6 ∷ []) ≡ outcome (record { number = 0; size = 4 }) (100 ∷ 32 ∷ 55 ∷ 10 ∷ 5 ∷ 6 ∷ [])
unfolding digits_from spaced written
longer = refl

pub no_buffer : written (Remove 7) [] ≡ outcome (record { number = 13; size = 0 }) []
unfolding digits_from spaced written
no_buffer = refl
