-- How a run of the program has gone, from wherever it stood, as `desk_feed` says it of the desk: some reads exist, and a turn for each of them leads from that
-- standing to the last one. What is handed to a write is what the definition prints (`Answering`).
use Rattle.std.specs.Prelude.{ℕ, ◌≡◌, Bool, true, false, cond, List, [], take}
use Rattle.rows.specs.Outcome.{Outcome}
use Rattle.desk_cutting.specs.Answering as Cutting
use Rattle.desk_cutting.specs.Reading as Reading
use Rattle.desk_feed.specs.declared.Ending.{Ending}
use Rattle.desk_feed.specs.Ran.{with_last, Rightly}
use Rattle.outage_run.specs.declared.Feed.{Feed}
use Rattle.outage_run.specs.Feeding.{village_of, fed}
use Rattle.outage_run.specs.Run.{Village, village, finished}
use Rattle.outage_run.specs.Run as Run
use Rattle.outage_feed.specs.declared.Ran.{Ran}

abbrev pub Standing : Type 0
Standing = Cutting.Standing Village

-- How the run stands: as many bytes at the start of the input are pending.
abbrev pub standing : ℕ → List ℕ → Feed → List ℕ → List ℕ → Standing
standing pending input f rs memory = record { pending = take pending input; state = village_of f rs memory }

-- Before line 1 nothing is pending.
abbrev pub at_start : List ℕ → Standing
at_start memory = record { pending = []; state = Run.at_start memory }

-- What some lines print from some state; and at the end of the input what the rows print after them.
abbrev pub printing : Bool → List (List ℕ) → Village → Outcome (List ℕ) Village
printing at_end lines v = cond at_end (Cutting.and_then (Cutting.lines_answered village lines v) finished) (Cutting.lines_answered village lines v)

-- What is to be written is what some lines print, and they lead to where the run stands.
pub record Answering (f : Feed) (output : List ℕ) : Type 0 where
  pub from : Village
  pub lines : List (List ℕ)
  pub at_end : Bool
  pub rs : List ℕ
  pub memory : List ℕ
  pub answers : fed f rs memory output ≡ printing at_end lines from

-- The run has come from one standing to another in a number of turns, over some reads.
abbrev pub TurnedTo : Standing → ℕ → ℕ → Standing → Type 0
TurnedTo from size turns to = Reading.TurnedTo village from size turns to

-- Where the input has ended, the last line is taken and the rows are run.
abbrev pub last_finished : Standing → Village
last_finished s = (finished (Reading.last_answered village s)).after

abbrev pub over_at : Ending → Standing → Village
over_at ending s = cond (with_last ending) (last_finished s) s.state

-- The end of the input.
pub record AtEnd (s : Standing) (turns : ℕ) (r : Ran) (rs' memory' : List ℕ) : Type 0 where
  pub last : with_last r.ending ≡ true
  pub stands : village_of r.feed rs' memory' ≡ last_finished s
  pub rightly : Rightly r.ending r.feed.stage r.turns
  pub counted : r.turns ≡ turns

-- A run that is over, from wherever it stood.
pub record RanFrom (from : Standing) (size : ℕ) (r : Ran) (rs' memory' : List ℕ) : Type 0 where
  pub to : Standing
  pub turned_to : TurnedTo from size r.turns to
  pub stands : village_of r.feed rs' memory' ≡ over_at r.ending to
  pub rightly : Rightly r.ending r.feed.stage r.turns
