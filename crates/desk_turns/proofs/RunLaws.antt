-- The laws of answering line after line, for the desk.
use Rattle.std.proofs.Common.{◌≡◌, ℕ, true, false, List, [], ◌∷◌}
use Rattle.rows.specs.Outcome.{Outcome, outcome}
use Rattle.desk_cutting.specs.Answering.{ByLine}
use Rattle.desk_cutting.proofs.AnsweringLaws as Laws
use Rattle.desk_turns.specs.Run.{State, has_ended, line_answered, and_then, lines_answered, desk}

-- The desk goes by what a line is read as.
pub desk_by_line : ByLine desk
unfolding line_answered
desk_by_line line other same s = rw same

pub none_once_ended : (lines : List (List ℕ)) (s : State) → has_ended s.stage ≡ true → lines_answered lines s ≡ outcome [] s
none_once_ended lines s ended = Laws.none_once_ended desk lines s ended

module _ (o : Outcome (List ℕ) State) where
  pub nothing_follows : and_then o (lines_answered []) ≡ o
  nothing_follows = Laws.nothing_follows desk o

  pub ended_is_all : (lines : List (List ℕ)) → has_ended o.after.stage ≡ true → and_then o (lines_answered lines) ≡ o
  ended_is_all lines ended = Laws.ended_is_all desk o lines ended

  pub one_and_others : (line : List ℕ) (lines : List (List ℕ)) → has_ended o.after.stage ≡ false
      → and_then o (lines_answered (line ∷ lines)) ≡ and_then (and_then o (line_answered line)) (lines_answered lines)
  one_and_others line lines goes_on = Laws.one_and_others desk o line lines goes_on
