-- The desk's lines that a line of a lesson is written as, and the calls that they are.
use Rattle.std.specs.Prelude.{ℕ, zero, suc, ◌≤◌, List, [], ◌∷◌, ◌++◌, Option, Some, None, Result, Ok, Err}
use Rattle.desk_lines.specs.Fields.{space}
use Rattle.desk_lines.specs.Lines.{most64, most32, most_rule}
use Rattle.desk_lines.specs.Printed.{line_feed, printed_field}
use Rattle.desk_lines.specs.declared.Line.{Line}
use Rattle.desk_lines.specs.declared.Line.TheVariants.{SetUp}
use Rattle.desk_writer.specs.declared.DeskCall.{DeskCall}
use Rattle.desk_writer.specs.Writer.{bytes_of, as_read}
use Rattle.exercise_lines.specs.Repeats.{call_on}
use Rattle.lesson_lines.specs.declared.Limits.{Limits}
use Rattle.lesson_lines.specs.declared.Wrong.{Wrong}
use Rattle.lesson_lines.specs.declared.Meaning.{Meaning}
use Rattle.lesson_lines.specs.declared.Meaning.TheVariants as meaning
use Rattle.lesson_lines.specs.Written.{limits_bytes, settings_of}

-- Some calls from a place on: for one modem after another, a spacing apart.
unfoldable pub calls_from : DeskCall → ℕ → ℕ → ℕ → List DeskCall
calls_from call spacing place zero = []
calls_from call spacing place (suc left) = call_on spacing place call ∷ calls_from call spacing (suc place) left

unfoldable pub all_bytes : List DeskCall → List (List ℕ)
all_bytes [] = []
all_bytes (call ∷ calls) = bytes_of call ∷ all_bytes calls

unfoldable pub all_read : List DeskCall → List Line
all_read [] = []
all_read (call ∷ calls) = as_read call ∷ all_read calls

-- The lines that a meaning is written as, each without its LF. An empty line and a wrong one are written as none.
abbrev pub lines_of : Result Meaning Wrong → List (List ℕ)
lines_of (Ok meaning.Blank) = []
lines_of (Ok (meaning.SetUp l)) = limits_bytes l ∷ []
lines_of (Ok (meaning.Calls call count spacing)) = all_bytes (calls_from call spacing 0 count)
lines_of (Err w) = []

-- What the meaning names: settings, or calls.
abbrev pub named_by : Result Meaning Wrong → List Line
named_by (Ok meaning.Blank) = []
named_by (Ok (meaning.SetUp l)) = SetUp (settings_of l) ∷ []
named_by (Ok (meaning.Calls call count spacing)) = all_read (calls_from call spacing 0 count)
named_by (Err w) = []

-- A settings line with its LF; and in the order in which it is put.
abbrev pub limits_line : Limits → List ℕ
limits_line l = limits_bytes l ++ (line_feed ∷ [])

abbrev pub idle_printed : Option ℕ → List ℕ
idle_printed (Some n) = printed_field n space
idle_printed None = 45 ∷ space ∷ []

abbrev pub four_printed : ℕ → ℕ → ℕ → ℕ → List ℕ
four_printed a b c d = printed_field a space ++ (printed_field b space ++ (printed_field c space ++ printed_field d space))

abbrev pub room_printed : ℕ → ℕ → Option ℕ → ℕ → List ℕ
room_printed modems shards idle rule =
    printed_field modems space ++ (printed_field shards space ++ (idle_printed idle ++ printed_field rule line_feed))

-- The numbers of limits are within their widths. All that are read are so.
abbrev pub IdleFits : Option ℕ → Type 0
IdleFits (Some n) = n ≤ most64
IdleFits None = Unit {0}

pub record LimitsFit (l : Limits) : Type 0 where
  pub amount_fits : l.amount ≤ most32
  pub period_fits : l.period ≤ most64
  pub burst_fits : l.burst ≤ most32
  pub initial_fits : l.initial ≤ most32
  pub modems_fit : l.modems ≤ most64
  pub shards_fit : l.shards ≤ most64
  pub idle_fits_met : IdleFits l.idle
  pub rule_fits : l.when_full ≤ most_rule
