-- The lines `v COUNT SPACING CALL` of an exercise: which bytes are such a line, and which calls it stands for.
use Rattle.std.specs.Prelude.{ℕ, ◌+◌, ◌*◌, ◌-◌, ◌≡◌, Bool, true, false, cond, List, eqb, leb, length, drop, get_or, Option, Some, None}
use Rattle.units.specs.Units.{nanos_of}
use Rattle.decimal.specs.Decimal.{number_of}
use Rattle.desk_lines.specs.declared.Request.{Request}
use Rattle.desk_lines.specs.declared.Line.{Line}
use Rattle.desk_lines.specs.declared.Line.TheVariants as line
use Rattle.desk_lines.specs.Fields.{space, field_end, field_at}
use Rattle.desk_lines.specs.Lines.{most64, line_of}
use Rattle.desk_writer.specs.declared.DeskCall.{DeskCall}
use Rattle.desk_writer.specs.declared.DeskCall.TheVariants.{Try, Peek, Reserve, Refund, Remove}
use Rattle.exercise_lines.specs.declared.Repeat.{Repeat}
use Rattle.exercise_lines.specs.declared.Repeat.TheVariants.{Calls, Other, TooFar}

-- The call at a place, where the first one has place 0: it is for the modem that many after the first one, and that many spacings later.
-- The numbers of a definition have no width.
abbrev pub request_on : ℕ → ℕ → Request → Request
request_on spacing place q = record { at = nanos_of (q.at.0 + place * spacing); key = q.key + place; cost = q.cost }

unfoldable pub call_on : ℕ → ℕ → DeskCall → DeskCall
call_on spacing place (Try q) = Try (request_on spacing place q)
call_on spacing place (Peek q) = Peek (request_on spacing place q)
call_on spacing place (Reserve q w) = Reserve (request_on spacing place q) w
call_on spacing place (Refund key cost) = Refund (key + place) cost
call_on spacing place (Remove key) = Remove (key + place)

-- Whether the numbers of that call have at most 64 bits.
unfoldable pub request_within : ℕ → ℕ → Request → Bool
request_within spacing place q = cond (leb (q.at.0 + place * spacing) most64) (leb (q.key + place) most64) false

unfoldable pub within64 : ℕ → ℕ → DeskCall → Bool
within64 spacing place (Try q) = request_within spacing place q
within64 spacing place (Peek q) = request_within spacing place q
within64 spacing place (Reserve q w) = request_within spacing place q
within64 spacing place (Refund key cost) = leb (key + place) most64
within64 spacing place (Remove key) = leb (key + place) most64

-- Some calls, unless a number of the last one has more than 64 bits.
unfoldable pub of_call : ℕ → ℕ → DeskCall → Repeat
of_call count spacing call = cond (within64 spacing (count - 1) call) (Calls call count spacing) TooFar

-- The calls of a line of the desk. Settings are no call.
unfoldable pub of_line : ℕ → ℕ → Line → Repeat
of_line count spacing (line.Try q) = of_call count spacing (Try q)
of_line count spacing (line.Peek q) = of_call count spacing (Peek q)
of_line count spacing (line.Reserve q w) = of_call count spacing (Reserve q w)
of_line count spacing (line.Refund key cost) = of_call count spacing (Refund key cost)
of_line count spacing (line.Remove key) = of_call count spacing (Remove key)
of_line count spacing (line.SetUp s) = Other
of_line count spacing line.Malformed = Other

-- The calls, if both numbers are numbers.
unfoldable pub of_parts : Option ℕ → Option ℕ → Line → Repeat
of_parts None spacing l = Other
of_parts (Some n) None l = Other
of_parts (Some n) (Some m) l = of_line n m l

-- The largest count.
abbrev pub most_lines : ℕ
most_lines = 65536

-- A line of at least two bytes, whatever these are: the fields after them are the count and the spacing, with a space behind each.
-- The other bytes are a line of the desk.
abbrev pub spacing_at : List ℕ → ℕ
spacing_at bytes = field_end bytes 2 + 1

abbrev pub call_at : List ℕ → ℕ
call_at bytes = field_end bytes (spacing_at bytes) + 1

unfoldable pub of_bytes : List ℕ → Repeat
of_bytes bytes =
    cond (eqb (field_end bytes 2) (length bytes)) Other
    (cond (eqb (field_end bytes (spacing_at bytes)) (length bytes)) Other
    (of_parts (number_of most_lines (field_at bytes 2)) (number_of most64 (field_at bytes (spacing_at bytes))) (line_of (drop (call_at bytes) bytes))))

-- What a line is as a `v` line: it begins with `v` (118) and a space.
unfoldable pub begins_with_v : List ℕ → Bool
begins_with_v bytes = cond (leb 2 (length bytes)) (cond (eqb (get_or bytes 0 0) 118) (eqb (get_or bytes 1 0) space) false) false

unfoldable pub repeat_of : List ℕ → Repeat
repeat_of bytes = cond (begins_with_v bytes) (of_bytes bytes) Other

-- Calls whose numbers all have at most 64 bits: the last one's have.
abbrev pub Within : Repeat → Type 0
Within (Calls call count spacing) = within64 spacing (count - 1) call ≡ true
Within Other = Unit {0}
Within TooFar = Unit {0}
