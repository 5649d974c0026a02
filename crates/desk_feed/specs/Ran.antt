-- How a run has gone, from wherever it stood: some reads exist, and a turn for each of them leads from that standing to the last one. Which bytes standard
-- input had, and that all answers were written in order, no contract says. What is handed to a write are answers (`Answering`).
use Rattle.std.specs.Prelude.{ℕ, ◌-◌, ◌^◌, ◌<◌, ◌≡◌, Bool, true, false, cond, List, [], take}
use Rattle.desk_answers.specs.declared.Stage.{Stage}
use Rattle.desk_answers.specs.declared.Stage.TheVariants.{First}
use Rattle.desk_turns.specs.declared.Feed.{Feed}
use Rattle.desk_turns.specs.Feeding.{state_of, fed}
use Rattle.desk_cutting.specs.Reading as Reading
use Rattle.desk_turns.specs.Run.{State, Standing, desk, has_ended, lines_answered}
use Rattle.desk_feed.specs.declared.Ran.{Ran}
use Rattle.desk_feed.specs.declared.Ending.{Ending}
use Rattle.desk_feed.specs.declared.Ending.TheVariants.{Input, Refused, Read, Write, LastWrite, Turns}

-- The program's memory holds so many words; a store that needs more is refused.
abbrev pub desk_words : ℕ
desk_words = 8192

-- How the run stands: so many bytes at the start of the input are pending.
abbrev pub standing : ℕ → List ℕ → Feed → List ℕ → Standing
standing pending input f memory = record { pending = take pending input; state = state_of f memory }

-- Before line 1, at number 0, nothing is pending.
abbrev pub at_start : List ℕ → Standing
at_start memory = record { pending = []; state = record { stage = First; number = 0; memory = memory } }

-- What is to be written are answers: the printed bytes answer some lines from some state, and those lines lead to where the run stands.
pub record Answering (f : Feed) (output : List ℕ) : Type 0 where
  pub from : State
  pub lines : List (List ℕ)
  pub memory : List ℕ
  pub answers : fed f memory output ≡ lines_answered lines from

-- The run has come from one standing to another in a number of turns, over some reads.
abbrev pub TurnedTo : Standing → ℕ → ℕ → Standing → Type 0
TurnedTo from size turns to = Reading.TurnedTo desk from size turns to

-- Whether the last line is answered: at the end of the input. Once the run has ended no line is left, so that answering the last
-- line changes nothing (`none_once_ended` of `desk_turns`).
abbrev pub with_last : Ending → Bool
with_last Input = true
with_last Refused = true
with_last LastWrite = true
with_last Read = false
with_last Write = false
with_last Turns = false

abbrev pub last_answered : Standing → State
last_answered s = Reading.last_answered desk s

abbrev pub over_at : Ending → Standing → State
over_at ending s = cond (with_last ending) (last_answered s) s.state

-- The most turns that a run makes: the largest number that their counter holds.
abbrev pub most_turns : ℕ
most_turns = 2 ^ 64 - 1

-- A run is said to be over for its line 1 if that was not accepted, and for no other reason then, but for a write that failed. It is said to be over for its
-- turns once it has made the most of them, and for the write of a turn's answers once it has made a turn. The write of the last line's answer may fail
-- whatever the stage is and however many turns were made.
abbrev pub Rightly : Ending → Stage → ℕ → Type 0
Rightly Refused stage turns = has_ended stage ≡ true
Rightly Input stage turns = has_ended stage ≡ false
Rightly Read stage turns = has_ended stage ≡ false
Rightly Turns stage turns = (has_ended stage ≡ false) × (turns ≡ most_turns)
Rightly Write stage turns = 0 < turns
Rightly LastWrite stage turns = Unit {0}

-- The end of the input: the last line is answered.
pub record AtEnd (s : Standing) (turns : ℕ) (r : Ran) (memory' : List ℕ) : Type 0 where
  pub last : with_last r.ending ≡ true
  pub stands : state_of r.feed memory' ≡ last_answered s
  pub rightly : Rightly r.ending r.feed.stage r.turns
  pub counted : r.turns ≡ turns

-- A run that is over, from wherever it stood: it has turned some reads, and where the input has ended answered the last line.
pub record RanFrom (from : Standing) (size : ℕ) (r : Ran) (memory' : List ℕ) : Type 0 where
  pub to : Standing
  pub turned_to : TurnedTo from size r.turns to
  pub stands : state_of r.feed memory' ≡ over_at r.ending to
  pub rightly : Rightly r.ending r.feed.stage r.turns
