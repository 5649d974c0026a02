-- What is written for a lesson, and what is told of it: one definition for any input bytes. A run goes through it line by line; what is left to be written and
-- told from wherever it stands is `left_of`.
use Rattle.std.specs.Prelude.{◌≡◌, ℕ, ◌+◌, ◌-◌, ◌%◌, ◌^◌, ◌<◌, ◌≤◌, Bool, true, false, cond, List, [], ◌∷◌, ◌++◌, length, take, drop, ◌==◌, nat_le, nat_lt}
use Rattle.std.specs.Prelude.{Option, Some, None, Result, Ok, Err}
use Rattle.std.specs.Prelude.{slice_index}
use Rattle.desk_cutting.specs.Cutting.{lines_of}
use Rattle.desk_writer.specs.declared.DeskCall.{DeskCall}
use Rattle.desk_writer.specs.declared.DeskCall.TheVariants as call
use Rattle.desk_writer.specs.Writer.{written_line}
use Rattle.exercise_lines.specs.Repeats.{call_on, within64}
use Rattle.lesson_lines.specs.declared.Limits.{Limits}
use Rattle.lesson_lines.specs.declared.Wrong.{Wrong}
use Rattle.lesson_lines.specs.declared.Meaning.{Meaning}
use Rattle.lesson_lines.specs.declared.Meaning.TheVariants as meaning
use Rattle.lesson_lines.specs.Lesson.{meaning_of, moment_in, clock_after}
use Rattle.lesson_writer.specs.Lines.{calls_from, limits_line}
use Rattle.lesson_run.specs.declared.Note.{Note}
use Rattle.lesson_run.specs.declared.Note.TheVariants as note
use Rattle.lesson_run.specs.declared.Progress.{Progress}
use Rattle.lesson_run.specs.declared.Step.{Step}

-- A byte order mark in front of the first line is left out.
unfoldable pub is_marked : List ℕ → Bool
is_marked bs = cond (nat_le 3 (length bs)) (cond (slice_index bs 0 == 239) (cond (slice_index bs 1 == 187) (slice_index bs 2 == 191) false) false) false

abbrev pub start_of : List ℕ → ℕ
start_of input = cond (is_marked input) 3 0

-- The lines that a meaning is written as, each with its LF.
unfoldable pub all_written : List DeskCall → List (List ℕ)
all_written [] = []
all_written (c ∷ cs) = written_line c ∷ all_written cs

abbrev pub written : Result Meaning Wrong → List (List ℕ)
written (Ok meaning.Blank) = []
written (Ok (meaning.SetUp l)) = limits_line l ∷ []
written (Ok (meaning.Calls c count spacing)) = all_written (calls_from c spacing 0 count)
written (Err w) = []

-- What is told of the line of a number: what is wrong with it and where; or that its first moment is before the clock.
abbrev pub falls_to : ℕ → ℕ → ℕ → List Note
falls_to number clock moment = cond (nat_lt moment clock) (note.Falls number moment clock ∷ []) []

abbrev pub told : ℕ → ℕ → Result Meaning Wrong → List Note
told number clock (Ok meaning.Blank) = []
told number clock (Ok (meaning.SetUp l)) = []
told number clock (Ok (meaning.Calls c count spacing)) = falls_to number clock (moment_in clock c)
told number clock (Err w) = note.Wrong number w.at w.fault ∷ []

-- Lines are counted in 64 bits.
abbrev pub next_number : ℕ → ℕ
next_number number = (number + 1) % 2 ^ 64

-- All that lines are written as, and all that is told of them, by the clock and the number of the line before.
pub record Output : Type 0 where
  pub lines : List (List ℕ)
  pub notes : List Note

abbrev pub and_then : List (List ℕ) → List Note → Output → Output
and_then ls ns o = record { lines = ls ++ o.lines; notes = ns ++ o.notes }

unfoldable pub output_of : ℕ → ℕ → List (List ℕ) → Output
output_of number clock [] = record { lines = []; notes = [] }
output_of number clock (line ∷ lines) =
    let m = meaning_of clock line in
    and_then (written m) (told (next_number number) clock m) (output_of (next_number number) (clock_after clock m) lines)

-- The whole output for an input: the mark is left out, the first line has number 1, and the clock is 0.
abbrev pub lesson_of : List ℕ → Output
lesson_of input = output_of 0 0 (lines_of (drop (start_of input) input))

-- Where a run stands: calls of a line that are not yet written, and the lines from a place on.
abbrev pub calls_left : Progress → List (List ℕ)
calls_left p = all_written (calls_from p.call p.spacing p.place (p.count - p.place))

unfoldable pub left_of : List ℕ → Progress → Output
left_of text p = and_then (calls_left p) [] (output_of p.number p.clock (lines_of (drop p.at text)))

-- At a line, with no call left of the line before; and before the first line.
abbrev pub at_line : ℕ → ℕ → ℕ → Progress
at_line at number clock = record { at = at; number = number; clock = clock; call = call.Remove 0; place = 0; count = 0; spacing = 0 }

abbrev pub start_at : ℕ → Progress
start_at at = at_line at 0 0

-- Every number of the calls that are left has at most 64 bits.
abbrev pub Good : Progress → Type 0
Good p = p.place < p.count → within64 p.spacing (p.count - 1) p.call ≡ true

-- What a step hands out: at most one line, at the start of the buffer, and at most one note.
abbrev pub line_in : ℕ → List ℕ → List (List ℕ)
line_in size out = cond (size == 0) [] (take size out ∷ [])

abbrev pub notes_in : Note → List Note
notes_in note.Nothing = []
notes_in (note.Wrong number at f) = note.Wrong number at f ∷ []
notes_in (note.Falls number moment clock) = note.Falls number moment clock ∷ []

-- A step: what it hands out, and what is left after it, is what was left before it.
pub record Stepped (text : List ℕ) (p : Progress) (r : Step) (out : List ℕ) : Type 0 where
  pub splits : left_of text p ≡ and_then (line_in r.size out) (notes_in r.note) (left_of text r.progress)
  pub good : Good r.progress
  pub short : r.size ≤ length out

-- The next step; or there is none, and nothing is left.
abbrev pub SteppedOrOver : List ℕ → Progress → Option Step → List ℕ → Type 0
SteppedOrOver text p (Some r) out = Stepped text p r out
SteppedOrOver text p None out = left_of text p ≡ record { lines = []; notes = [] }

-- The parts of a step. A call is put: one more of those that were left.
abbrev pub one_place_on : Progress → Progress
one_place_on p = record {
  at = p.at;
  number = p.number;
  clock = p.clock;
  call = p.call;
  place = p.place + 1;
  count = p.count;
  spacing = p.spacing;
}

pub record CallPut (p : Progress) (r : Step) (out : List ℕ) : Type 0 where
  pub moves : r.progress ≡ one_place_on p
  pub puts : take r.size out ≡ written_line (call_on p.spacing p.place p.call)
  pub some : 0 < r.size
  pub short : r.size ≤ length out
  pub quiet : r.note ≡ note.Nothing

-- A line is taken by its meaning: settings are put, and calls are left to be put.
abbrev pub quiet : Progress → Note → Step
quiet p n = record { progress = p; size = 0; note = n }

abbrev pub falls_note : ℕ → ℕ → ℕ → Note
falls_note number moment clock = cond (nat_lt moment clock) (note.Falls number moment clock) note.Nothing

abbrev pub calls_begun : DeskCall → ℕ → ℕ → ℕ → ℕ → ℕ → Step
calls_begun c count spacing at number clock = quiet (record {
  at = at;
  number = number;
  clock = moment_in clock (call_on spacing (count - 1) c);
  call = c;
  place = 0;
  count = count;
  spacing = spacing;
}) (falls_note number (moment_in clock c) clock)

pub record LimitsPut (l : Limits) (p : Progress) (r : Step) (out : List ℕ) : Type 0 where
  pub moves : r.progress ≡ p
  pub puts : take r.size out ≡ limits_line l
  pub some : 0 < r.size
  pub short : r.size ≤ length out
  pub quiet : r.note ≡ note.Nothing

abbrev pub CallsWithin : Meaning → Type 0
CallsWithin meaning.Blank = Unit {0}
CallsWithin (meaning.SetUp l) = Unit {0}
CallsWithin (meaning.Calls c count spacing) = within64 spacing (count - 1) c ≡ true

abbrev pub LineTaken : Result Meaning Wrong → ℕ → ℕ → ℕ → Step → List ℕ → Type 0
LineTaken (Ok meaning.Blank) at number clock r out = r ≡ quiet (at_line at number clock) note.Nothing
LineTaken (Ok (meaning.SetUp l)) at number clock r out = LimitsPut l (at_line at number clock) r out
LineTaken (Ok (meaning.Calls c count spacing)) at number clock r out = r ≡ calls_begun c count spacing at number clock
LineTaken (Err w) at number clock r out = r ≡ quiet (at_line at number clock) (note.Wrong number w.at w.fault)

-- How many lines were left out, by the notes; and how many lines and lines left out a step hands out.
abbrev pub wrong_one : Note → ℕ
wrong_one note.Nothing = 0
wrong_one (note.Wrong number at f) = 1
wrong_one (note.Falls number moment clock) = 0

unfoldable pub wrong_in : List Note → ℕ
wrong_in [] = 0
wrong_in (n ∷ ns) = wrong_one n + wrong_in ns

abbrev pub lines_in : ℕ → ℕ
lines_in size = cond (size == 0) 0 1

-- Where a run stands: what was handed out, and after it what is left, is the whole output. The counts are those of what was handed out.
pub record Stands (text : List ℕ) (p : Progress) (lines wrong : ℕ) : Type 0 where
  pub handed : Output
  pub splits : lesson_of text ≡ and_then handed.lines handed.notes (left_of text p)
  pub counted : lines ≡ length handed.lines
  pub missed : wrong ≡ wrong_in handed.notes
  pub good : Good p

-- Counts of the whole output.
pub record Counted (text : List ℕ) (lines wrong : ℕ) : Type 0 where
  pub all_lines : lines ≡ length (lesson_of text).lines
  pub all_wrong : wrong ≡ wrong_in (lesson_of text).notes
