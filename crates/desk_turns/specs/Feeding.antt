-- What the buffers of the program hold: lines to answer in the input, answers to write in the output.
use Rattle.std.specs.Prelude.{◌≡◌, ℕ, ◌+◌, ◌≤◌, false, List, length, take, drop}
use Rattle.rows.specs.Outcome.{Outcome, outcome}
use Rattle.desk_lines.specs.Lines.{longest_line}
use Rattle.desk_lines.specs.Printed.{longest_printed}
pub use Rattle.desk_cutting.specs.Cutting.{SameFrom}
use Rattle.desk_turns.specs.declared.Feed.{Feed}
use Rattle.desk_turns.specs.declared.Lines.{Lines}
use Rattle.desk_turns.specs.declared.Turned.{Turned}
use Rattle.desk_turns.specs.Run.{State, has_ended, line_answered, and_then, lines_answered, cut, last_line, kept_of}

abbrev pub state_of : Feed → List ℕ → State
state_of f memory = record { stage = f.stage; number = f.number; memory = memory }

-- The same with nothing printed.
abbrev pub unprinted : Feed → Feed
unprinted f = record { stage = f.stage; number = f.number; put = 0 }

-- What stands printed in the output, and how the run stands.
abbrev pub fed : Feed → List ℕ → List ℕ → Outcome (List ℕ) State
fed f memory output = outcome (take f.put output) (state_of f memory)

-- A line was answered, after what stood printed.
pub record OneLine (f : Feed) (line memory output : List ℕ) (r : Feed) (memory' output' : List ℕ) : Type 0 where
  pub answers : fed r memory' output' ≡ and_then (fed f memory output) (line_answered line)
  pub after : f.put ≤ r.put
  pub fits : r.put ≤ f.put + longest_printed
  pub beyond : SameFrom r.put output output'

-- The whole lines of some bytes were answered: their answers are printed after what stood printed. Unless the run has ended, the next line begins
-- with what is left.
pub record WholeLines (f : Feed) (bytes memory output : List ℕ) (r : Lines) (memory' output' : List ℕ) : Type 0 where
  pub answers : fed r.feed memory' output' ≡ and_then (fed f memory output) (lines_answered (cut bytes).lines)
  pub leaves : has_ended r.feed.stage ≡ false → drop r.at bytes ≡ (cut bytes).rest
  pub within : r.at ≤ length bytes
  pub fits : r.feed.put ≤ length output
  pub beyond : SameFrom r.feed.put output output'

-- The bytes that are pending after a turn. Once the run has ended no definition decides which they are. What holds of them then: they are no more than are kept
-- of a line (`few`), and no line is answered from them any more (`none_once_ended`).
abbrev pub pending_by : Turned → List ℕ → List ℕ
pending_by r input' = take r.pending input'

-- A turn: the whole lines among the bytes that have been read are answered, and nothing else stands printed. Unless the run has ended, what is left
-- is kept at the start of the input. All other bytes are as they were.
pub record OneTurn (f : Feed) (end : ℕ) (input memory output : List ℕ) (r : Turned) (input' memory' output' : List ℕ) : Type 0 where
  pub answers : fed r.feed memory' output' ≡ lines_answered (cut (take end input)).lines (state_of f memory)
  pub keeps : has_ended r.feed.stage ≡ false → pending_by r input' ≡ kept_of (cut (take end input)).rest
  pub few : r.pending ≤ longest_line + 1
  pub fits : r.feed.put ≤ length output
  pub beyond_printed : SameFrom r.feed.put output output'
  pub beyond_pending : SameFrom r.pending input input'

-- The end of the input: the bytes that are pending are the last line. Where none are pending, no line begins, and nothing stands printed.
pub record LastLine (f : Feed) (pending : ℕ) (input memory output : List ℕ) (r : Feed) (memory' output' : List ℕ) : Type 0 where
  pub answers : fed r memory' output' ≡ lines_answered (last_line (take pending input)) (state_of f memory)
  pub fits : r.put ≤ length output
  pub beyond : SameFrom r.put output output'
