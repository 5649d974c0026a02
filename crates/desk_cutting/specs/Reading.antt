-- The reads that a program's input comes in, and how its run stands after them. Which bytes standard input had no contract says: what holds of a run holds of
-- some reads.
use Rattle.std.specs.Prelude.{ℕ, ◌≤◌, ◌≡◌, false, List, [], ◌∷◌, length}
use Rattle.desk_cutting.specs.Cutting.{last_line}
use Rattle.desk_cutting.specs.Answering.{Machine, lines_answered, Standing, turned, turned_over}

-- No read brought more bytes than the input buffer holds.
abbrev pub Short : ℕ → List (List ℕ) → Type 0
Short size [] = Unit {0}
Short size (read ∷ reads) = (length read ≤ size) × Short size reads

-- No read was made once the run had ended.
unfoldable pub EachWhileGoing : {S : Type 0} → Machine S → List (List ℕ) → Standing S → Type 0
EachWhileGoing m [] s = Unit {0}
EachWhileGoing m (read ∷ reads) s = (m.ended s.state ≡ false) × EachWhileGoing m reads (turned m read s).after

-- The run has come from one standing to another in a number of turns, over some reads.
pub record TurnedTo {S : Type 0} (m : Machine S) (from : Standing S) (size turns : ℕ) (to : Standing S) : Type 0 where
  pub reads : List (List ℕ)
  pub short : Short size reads
  pub counted : length reads ≡ turns
  pub going : EachWhileGoing m reads from
  pub is_turned : to ≡ turned_over m reads from

-- How the run stands once the line that is pending is answered, as the last one.
abbrev pub last_answered : {S : Type 0} → Machine S → Standing S → S
last_answered m s = (lines_answered m (last_line s.pending) s.state).after
