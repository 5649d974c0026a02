-- What a read brings.
use Rattle.std.specs.Prelude.{ℕ, ◌+◌, ◌≤◌, Bool, false, cond, eqb, ℤ, pos, negsuc, Option, Some, None, Result, Ok, Err}
use Rattle.std.specs.declared.io.Error.{Error}
use Rattle.std.specs.IoError.{raw_os_error}
use Rattle.desk_reads.specs.declared.Got.{Got}
use Rattle.desk_reads.specs.declared.Got.TheVariants.{More, End, Failed}

-- The error of a read that a signal interrupts before it has brought a byte.
abbrev pub is_interrupt : ℤ → Bool
is_interrupt (pos error) = eqb error 4
is_interrupt (negsuc error) = false

-- What a read brought, by its answer: -1 where it failed, with the number of the error, else a count of bytes, 0 of them at the end of the input. A read that
-- is interrupted brings none, and is made again.
unfoldable pub brought_by : ℤ → ℤ → ℕ → ℕ → Got
brought_by (negsuc k) error pending count = cond (is_interrupt error) (More pending) Failed
brought_by (pos k) error pending count = cond (eqb count 0) End (More (pending + count))

-- The answer of a read, as the system gives it.
abbrev pub answer_of : Result ℕ Error → ℤ
answer_of (Ok count) = pos count
answer_of (Err error) = negsuc 0

-- The number of an error, or 0 where the system gave none.
abbrev pub known_number : Option ℤ → ℤ
known_number (Some number) = number
known_number None = pos 0

abbrev pub number_of : Error → ℤ
number_of error = known_number (raw_os_error error)

-- The number of the error of a read that failed.
abbrev pub error_of : Result ℕ Error → ℤ
error_of (Ok count) = pos 0
error_of (Err error) = number_of error

-- How many bytes a read brought.
abbrev pub count_of : Result ℕ Error → ℕ
count_of (Ok count) = count
count_of (Err error) = 0

-- A read brings bytes after those that are pending, as far as there is room. Which bytes these are no definition decides, nor which stand in the input after
-- them: any bytes may.
abbrev pub Grows : ℕ → ℕ → Got → Type 0
Grows pending size (More end) = (pending ≤ end) × (end ≤ size)
Grows pending size End = Unit {0}
Grows pending size Failed = Unit {0}
