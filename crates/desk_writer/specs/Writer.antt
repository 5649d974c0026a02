-- The line of a call: a letter, and numbers with a space in front of each, then the LF; and what a writer leaves in a buffer.
use Rattle.std.specs.Prelude.{ℕ, ◌≤◌, cond, List, [], ◌∷◌, ◌++◌, leb, length, drop}
use Rattle.rows.specs.Outcome.{Outcome, outcome}
use Rattle.decimal.specs.Decimal.{digits_of}
use Rattle.desk_lines.specs.declared.Request.{Request}
use Rattle.desk_lines.specs.declared.Line.{Line}
use Rattle.desk_lines.specs.declared.Line.TheVariants as line
use Rattle.desk_lines.specs.Fields.{space}
use Rattle.desk_lines.specs.Lines.{most64, most32}
use Rattle.desk_lines.specs.Printed.{line_feed}
use Rattle.desk_writer.specs.declared.DeskCall.{DeskCall}
use Rattle.desk_writer.specs.declared.DeskCall.TheVariants.{Try, Peek, Reserve, Refund, Remove}
use Rattle.desk_writer.specs.declared.Written.{Written}

-- A number with a space in front. Its digits have no zero in front.
abbrev pub field : ℕ → List ℕ
field n = space ∷ digits_of n

-- Numbers in a row.
unfoldable pub spaced : List ℕ → List ℕ
spaced [] = []
spaced (n ∷ ns) = field n ++ spaced ns

-- A call's letter: `a`, `p`, `r`, `f`, `d`.
abbrev pub letter_of : DeskCall → ℕ
letter_of (Try q) = 97
letter_of (Peek q) = 112
letter_of (Reserve q w) = 114
letter_of (Refund k n) = 102
letter_of (Remove k) = 100

-- A call's numbers: now, key, cost, max wait; of a refund key and cost; of a removal the key.
abbrev pub request_numbers : Request → List ℕ
request_numbers q = q.at.0 ∷ q.key ∷ q.cost ∷ []

abbrev pub numbers_of : DeskCall → List ℕ
numbers_of (Try q) = request_numbers q
numbers_of (Peek q) = request_numbers q
numbers_of (Reserve q w) = request_numbers q ++ (w.0 ∷ [])
numbers_of (Refund k n) = k ∷ n ∷ []
numbers_of (Remove k) = k ∷ []

-- The line without its LF, and with it.
abbrev pub bytes_of : DeskCall → List ℕ
bytes_of call = letter_of call ∷ spaced (numbers_of call)

abbrev pub written_line : DeskCall → List ℕ
written_line call = bytes_of call ++ (line_feed ∷ [])

-- The most bytes that a line has, with its LF.
abbrev pub longest_written : ℕ
longest_written = 76

-- The number of the refusal.
abbrev pub too_short : ℕ
too_short = 13

-- What is told, and what is left in the buffer: the line and then the bytes that stood past it; or, where the buffer is shorter than the line, all bytes as
-- they were.
unfoldable pub written : DeskCall → List ℕ → Outcome Written (List ℕ)
written call buffer =
    cond (leb (length (written_line call)) (length buffer))
    (outcome (record { number = 0; size = length (written_line call) }) (written_line call ++ drop (length (written_line call)) buffer))
    (outcome (record { number = too_short; size = 0 }) buffer)

-- The line of the reader that a call is.
abbrev pub as_read : DeskCall → Line
as_read (Try q) = line.Try q
as_read (Peek q) = line.Peek q
as_read (Reserve q w) = line.Reserve q w
as_read (Refund k n) = line.Refund k n
as_read (Remove k) = line.Remove k

-- The numbers of a call are within their widths: 64 bits, for a cost 32. Every call that code can make is so.
abbrev pub RequestFits : Request → Type 0
RequestFits q = (q.at.0 ≤ most64) × ((q.key ≤ most64) × (q.cost ≤ most32))

abbrev pub Fits : DeskCall → Type 0
Fits (Try q) = RequestFits q
Fits (Peek q) = RequestFits q
Fits (Reserve q w) = RequestFits q × (w.0 ≤ most64)
Fits (Refund k n) = (k ≤ most64) × (n ≤ most32)
Fits (Remove k) = k ≤ most64
