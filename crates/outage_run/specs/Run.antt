-- What the program prints for its input: line 1 as the desk answers it; the rows of lines 2 to 201, once they have been run; and each line after these.
use Rattle.std.specs.Prelude.{ℕ, ◌+◌, ◌-◌, ◌%◌, ◌^◌, cond, List, [], ◌∷◌, ◌++◌, ◌==◌}
use Rattle.rows.specs.Outcome.{Outcome, outcome}
use Rattle.settings.specs.declared.Settings.{Settings}
use Rattle.rules.specs.declared.codes.Told.{Told}
use Rattle.desk_lines.specs.declared.Request.{Request}
use Rattle.desk_lines.specs.declared.Line.{Line}
use Rattle.desk_lines.specs.declared.Line.TheVariants.{SetUp, Try, Peek, Reserve, Refund, Remove, Malformed}
use Rattle.desk_lines.specs.Lines.{line_of}
use Rattle.desk_lines.specs.Printed.{printed}
use Rattle.desk_answers.specs.declared.Served.{Served}
use Rattle.desk_answers.specs.declared.Stage.{Stage}
use Rattle.desk_answers.specs.declared.Stage.TheVariants.{First, Open, Ended}
use Rattle.desk_answers.specs.Desk.{malformed, in_store, opened, has_ended}
use Rattle.desk_cutting.specs.Cutting.{last_line, lines_of}
use Rattle.desk_cutting.specs.Answering.{Machine, Standing, and_then, lines_answered, turned_over, printed_in_turns}
use Rattle.outage_rows.specs.declared.Row.{Row}
use Rattle.outage_rows.specs.Model.{rows_run}
use Rattle.outage_rows.specs.Printed.{printed_row, printed_rows}

-- As many lines after line 1 can have a row: lines 2 to 201.
abbrev pub most_rows : ℕ
most_rows = 200

-- How the program stands between two lines: the desk's stage, the number of the last line, how many more lines can have a row, the rows that wait for the run,
-- and the memory.
pub record Village : Type 0 where
  pub stage : Stage
  pub number : ℕ
  pub room : ℕ
  pub rows : List Row
  pub memory : List ℕ

-- A row that waits for its first try, and the row of a malformed line or of a line of another kind.
abbrev pub row_to_try : Request → Row
row_to_try q = record { at = q.at; key = q.key; cost = q.cost; tries = 0; code = 0; live = 1 }

abbrev pub malformed_row : Row
malformed_row = record { at = record { 0 = 0 }; key = 0; cost = 0; tries = 0; code = malformed.code; live = 0 }

abbrev pub row_of_line : Line → Row
row_of_line (Try q) = row_to_try q
row_of_line (SetUp s) = malformed_row
row_of_line (Peek q) = malformed_row
row_of_line (Reserve q longest) = malformed_row
row_of_line (Refund key cost) = malformed_row
row_of_line (Remove key) = malformed_row
row_of_line Malformed = malformed_row

-- The power comes back: the rows are run on the words of the store, and printed. Then no row waits.
unfoldable pub comes_up : Settings → Village → Outcome (List ℕ) Village
comes_up s v =
    let o = in_store s (rows_run s v.rows) v.memory in
    outcome (printed_rows o.answer) (record { stage = v.stage; number = v.number; room = v.room; rows = []; memory = o.after })

-- Line 1 is answered as by the desk.
abbrev pub first_taken : ℕ → Line → Village → Outcome (List ℕ) Village
first_taken number line v =
    let o = opened line v.memory in
    outcome (printed number o.answer.told.code o.answer.told.number)
    (record { stage = o.answer.stage; number = number; room = v.room; rows = v.rows; memory = o.after })

-- A further line is kept as a row while there is room. The first line for which there is none has all rows run and printed before it is printed itself, as
-- malformed, whatever it is.
abbrev pub row_taken : ℕ → Line → Village → Outcome (List ℕ) Village
row_taken number line v =
    outcome [] (record { stage = v.stage; number = number; room = v.room - 1; rows = v.rows ++ (row_of_line line ∷ []); memory = v.memory })

abbrev pub past_taken : Settings → ℕ → Village → Outcome (List ℕ) Village
past_taken s number v =
    let o = comes_up s v in
    outcome (o.answer ++ printed_row number malformed_row) (record { stage = v.stage; number = number; room = v.room; rows = []; memory = o.after.memory })

abbrev pub further_taken : Settings → ℕ → Line → Village → Outcome (List ℕ) Village
further_taken s number line v = cond (v.room == 0) (past_taken s number v) (row_taken number line v)

-- A line, by how the program stands. Once the run has ended no line is taken. Lines are counted in 64 bits.
abbrev pub taken_in : Stage → ℕ → Line → Village → Outcome (List ℕ) Village
taken_in First number line v = first_taken number line v
taken_in (Open s) number line v = further_taken s number line v
taken_in (Ended code) number line v = outcome [] v

abbrev pub next_number : ℕ → ℕ
next_number number = (number + 1) % 2 ^ 64

unfoldable pub line_taken : List ℕ → Village → Outcome (List ℕ) Village
line_taken line v = taken_in v.stage (next_number v.number) (line_of line) v

-- The program, line after line; and the end of its input, where the rows that wait are run.
abbrev pub village : Machine Village
village = record { answers = line_taken; ended = λ v. has_ended v.stage }

abbrev pub finished_in : Stage → Village → Outcome (List ℕ) Village
finished_in First v = outcome [] v
finished_in (Open s) v = comes_up s v
finished_in (Ended code) v = outcome [] v

unfoldable pub finished : Village → Outcome (List ℕ) Village
finished v = finished_in v.stage v

-- Before line 1.
abbrev pub at_start : List ℕ → Village
at_start memory = record { stage = First; number = 0; room = most_rows; rows = []; memory = memory }

-- All that is printed for an input; and what is printed where the input comes in some reads.
abbrev pub printed_for : List ℕ → List ℕ → List ℕ
printed_for input memory = (and_then (lines_answered village (lines_of input) (at_start memory)) finished).answer

abbrev pub end_of_turns : List (List ℕ) → List ℕ → Village
end_of_turns reads memory =
    let t = turned_over village reads (record { pending = []; state = at_start memory }) in
    (lines_answered village (last_line t.pending) t.state).after

abbrev pub printed_in_reads : List (List ℕ) → List ℕ → List ℕ
printed_in_reads reads memory =
    printed_in_turns village reads (record { pending = []; state = at_start memory }) ++ (finished (end_of_turns reads memory)).answer
