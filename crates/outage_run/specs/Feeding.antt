-- What the buffers of the program hold: lines to take in the input, rows that wait in their words, what is to be written in the output.
use Rattle.std.specs.Prelude.{◌≡◌, ℕ, ◌+◌, ◌*◌, ◌≤◌, false, List, length, take, drop}
use Rattle.rows.specs.Outcome.{Outcome, outcome}
use Rattle.settings.specs.declared.Settings.{Settings}
use Rattle.desk_lines.specs.Lines.{longest_line}
use Rattle.desk_lines.specs.Printed.{written_over}
pub use Rattle.desk_cutting.specs.Cutting.{SameFrom}
use Rattle.desk_cutting.specs.Cutting.{cut, last_line, kept_of}
use Rattle.desk_cutting.specs.Answering.{and_then, lines_answered}
use Rattle.outage_rows.specs.Layout.{row_width, rows_in}
use Rattle.outage_rows.specs.declared.Row.{Row}
use Rattle.outage_rows.specs.Model.{rows_run}
use Rattle.outage_rows.specs.Printed.{longest_row, printed_rows}
use Rattle.outage_run.specs.declared.Feed.{Feed}
use Rattle.outage_run.specs.declared.Lines.{Lines}
use Rattle.outage_run.specs.declared.Turned.{Turned}
use Rattle.desk_answers.specs.Desk.{in_store, has_ended}
use Rattle.outage_run.specs.Run.{Village, village, finished}

-- How the program stands, by its buffers.
abbrev pub village_of : Feed → List ℕ → List ℕ → Village
village_of f rs memory = record { stage = f.stage; number = f.number; room = f.room; rows = rows_in f.count rs; memory = memory }

-- The same with nothing printed.
abbrev pub unprinted : Feed → Feed
unprinted f = record { stage = f.stage; number = f.number; count = f.count; room = f.room; put = 0 }

-- What stands printed in the output, and how the program stands.
abbrev pub fed : Feed → List ℕ → List ℕ → List ℕ → Outcome (List ℕ) Village
fed f rs memory output = outcome (take f.put output) (village_of f rs memory)

-- The rows that there are, and those that may come.
abbrev pub rows_to_print : Feed → ℕ
rows_to_print f = f.count + f.room

-- There are words for these rows.
abbrev pub HasWords : Feed → List ℕ → Type 0
HasWords f rs = row_width * rows_to_print f ≤ length rs

-- The bytes that are printed, and the most that as many lines and all rows can have.
abbrev pub bytes_for : ℕ → Feed → ℕ
bytes_for lines f = f.put + longest_row * (rows_to_print f + lines)

-- The first rows run in the store's part of the memory: the rows as they end, and the memory after it.
abbrev pub run_in : Settings → ℕ → List ℕ → List ℕ → Outcome (List Row) (List ℕ)
run_in s count rs memory = in_store s (rows_run s (rows_in count rs)) memory

-- They were run, and printed from a place on.
pub record CameUp (s : Settings) (count at : ℕ) (rs memory output : List ℕ) (r : ℕ) (memory' output' : List ℕ) : Type 0 where
  pub leaves : memory' ≡ (run_in s count rs memory).after
  pub prints : outcome r output' ≡ written_over (printed_rows (run_in s count rs memory).answer) at output

-- A step was taken, and what it prints stands after what stood printed. It printed no more than some lines have, and the rows that it leaves no more.
pub record Took (lines : ℕ) (step : Village → Outcome (List ℕ) Village) (f : Feed) (rs memory output : List ℕ) (r : Feed)
    (rs' memory' output' : List ℕ) : Type 0 where
  pub answers : fed r rs' memory' output' ≡ and_then (fed f rs memory output) step
  pub after : f.put ≤ r.put
  pub rows : rows_to_print r ≤ rows_to_print f
  pub fits : bytes_for 0 r ≤ bytes_for lines f
  pub beyond : SameFrom r.put output output'

-- A step that does not touch the words of the rows.
abbrev pub TookAside : ℕ → (Village → Outcome (List ℕ) Village) → Feed → List ℕ → List ℕ → Feed → List ℕ → List ℕ → Type 0
TookAside lines step f memory output r memory' output' = (rs : List ℕ) → Took lines step f rs memory output r rs memory' output'

-- The whole lines of some bytes were taken. Unless the run has ended, the next line begins with what is left.
pub record WholeLines (f : Feed) (bytes rs memory output : List ℕ) (r : Lines) (rs' memory' output' : List ℕ) : Type 0 where
  pub answers : fed r.feed rs' memory' output' ≡ and_then (fed f rs memory output) (lines_answered village (cut bytes).lines)
  pub leaves : has_ended r.feed.stage ≡ false → drop r.at bytes ≡ (cut bytes).rest
  pub within : r.at ≤ length bytes
  pub rows : rows_to_print r.feed ≤ rows_to_print f
  pub fits : r.feed.put ≤ length output
  pub beyond : SameFrom r.feed.put output output'

-- A turn: the whole lines among the bytes that have been read are taken, and nothing else stands printed. Unless the run has ended, what is left is kept at the
-- start of the input. All other bytes are as they were.
pub record OneTurn (f : Feed) (end : ℕ) (input rs memory output : List ℕ) (r : Turned) (input' rs' memory' output' : List ℕ) : Type 0 where
  pub answers : fed r.feed rs' memory' output' ≡ lines_answered village (cut (take end input)).lines (village_of f rs memory)
  pub keeps : has_ended r.feed.stage ≡ false → take r.pending input' ≡ kept_of (cut (take end input)).rest
  pub few : r.pending ≤ longest_line + 1
  pub rows : rows_to_print r.feed ≤ rows_to_print f
  pub fits : r.feed.put ≤ length output
  pub beyond_printed : SameFrom r.feed.put output output'
  pub beyond_pending : SameFrom r.pending input input'

-- The end of the input: the bytes that are pending are the last line, and the rows that wait are run. Nothing else stands printed.
pub record LastLine (f : Feed) (pending : ℕ) (input rs memory output : List ℕ) (r : Feed) (rs' memory' output' : List ℕ) : Type 0 where
  pub answers : fed r rs' memory' output' ≡ and_then (lines_answered village (last_line (take pending input)) (village_of f rs memory)) finished
  pub fits : r.put ≤ length output
  pub beyond : SameFrom r.put output output'
