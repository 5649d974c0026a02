-- What the desk prints for its input: the lines that the input is cut into, each answered in turn, whatever pieces the input is read in.
use Rattle.std.specs.Prelude.{ℕ, ◌+◌, ◌%◌, ◌^◌, Bool, true, false, List}
use Rattle.rows.specs.Outcome.{Outcome, outcome}
use Rattle.desk_lines.specs.Lines.{line_of}
use Rattle.desk_lines.specs.Printed.{printed}
use Rattle.rules.specs.declared.codes.Told.{Told}
use Rattle.desk_answers.specs.declared.Stage.{Stage}
use Rattle.desk_answers.specs.declared.Stage.TheVariants.{First, Open, Ended}
use Rattle.desk_answers.specs.Desk.{served}
pub use Rattle.desk_answers.specs.Desk.{has_ended}
pub use Rattle.desk_cutting.specs.Cutting.{Cut, on_first, last_line, kept_of}
unfoldable pub use Rattle.desk_cutting.specs.Cutting.{cut, lines_of, joined}
pub use Rattle.desk_cutting.specs.Answering.{Machine, and_then}
use Rattle.desk_cutting.specs.Answering as Answering

-- How the run stands between two lines, with the number of the last one.
pub record State : Type 0 where
  pub stage : Stage
  pub number : ℕ
  pub memory : List ℕ

-- Whether line 1 is to come.
abbrev pub is_first : Stage → Bool
is_first First = true
is_first (Open s) = false
is_first (Ended code) = false

abbrev pub printed_for : ℕ → Told → List ℕ
printed_for number told = printed number told.code told.number

-- A line is answered: what is printed for it, and how the run stands then. Lines are counted in 64 bits.
unfoldable pub line_answered : List ℕ → State → Outcome (List ℕ) State
line_answered line s =
    let o = served s.stage (line_of line) s.memory in
    let number = (s.number + 1) % 2 ^ 64 in
    outcome (printed_for number o.answer.told) (record { stage = o.answer.stage; number = number; memory = o.after })

-- The desk as a program that answers line after line.
abbrev pub desk : Machine State
desk = record { answers = line_answered; ended = λ s. has_ended s.stage }

-- Lines are answered one after the other until the run has ended.
abbrev pub lines_answered : List (List ℕ) → State → Outcome (List ℕ) State
lines_answered lines s = Answering.lines_answered desk lines s

-- All that is printed for some lines: each one's number, code and wait, until the run has ended.
abbrev pub printed_all : Stage → ℕ → List (List ℕ) → List ℕ → List ℕ
printed_all stage number lines memory = (lines_answered lines (record { stage = stage; number = number; memory = memory })).answer

-- How the run stands between two reads, a turn, the turns of some reads, and what they print.
abbrev pub Standing : Type 0
Standing = Answering.Standing State

abbrev pub turned : List ℕ → Standing → Outcome (List ℕ) Standing
turned read s = Answering.turned desk read s

abbrev pub turned_over : List (List ℕ) → Standing → Standing
turned_over reads s = Answering.turned_over desk reads s

abbrev pub printed_in_turns : List (List ℕ) → Standing → List ℕ
printed_in_turns reads s = Answering.printed_in_turns desk reads s
