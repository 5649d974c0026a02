-- A run comes on by a turn with each read.
use Prim.Native.Nat.{ℕ, ◌+◌, ◌≤◌}
use native.Mathlib.Omega.{arith}
use mathlib.Core.Path.{◌≡◌, refl, sym, ap, ◌∙◌}
use mathlib.Core.Bool.{true, false}
use mathlib.Core.List.{List, [], ◌∷◌, ◌++◌}
use lib.ListN.{length, length-append}
use Rattle.rows.specs.Outcome.{Outcome}
use Rattle.desk_cutting.specs.Cutting.{last_line}
use Rattle.desk_cutting.specs.Answering.{Machine, Standing, turned, turned_over}
use Rattle.desk_cutting.specs.Reading.{Short, EachWhileGoing, TurnedTo, last_answered}
use Rattle.desk_cutting.proofs.AnsweringLaws.{none_once_ended, one_turn_more}

short_on : (size : ℕ) (reads : List (List ℕ)) (read : List ℕ) → Short size reads → length read ≤ size → Short size (reads ++ (read ∷ []))
short_on size [] read short fits = (fits, tt)
short_on size (first ∷ reads) read short fits = (short.0, short_on size reads read short.1 fits)

module _ {S : Type 0} (m : Machine S) where
  -- No read yet, and one more.
  pub none_turned : (s : Standing S) (size : ℕ) → TurnedTo m s size 0 s
  unfolding turned_over EachWhileGoing
  none_turned s size = record { reads = []; short = tt; counted = refl; going = tt; is_turned = refl }

  going_on : (reads : List (List ℕ)) (read : List ℕ) (s : Standing S) → EachWhileGoing m reads s → m.ended (turned_over m reads s).state ≡ false
      → EachWhileGoing m (reads ++ (read ∷ [])) s
  unfolding turned_over EachWhileGoing
  going_on [] read s going more = (more, tt)
  going_on (first ∷ reads) read s going more = (going.0, going_on reads read (turned m first s).after going.1 more)

  pub one_more : {from to : Standing S} {size turns : ℕ} (read : List ℕ) → length read ≤ size → TurnedTo m from size turns to → m.ended to.state ≡ false
      → TurnedTo m from size (turns + 1) (turned m read to).after
  one_more {from} {size = size} read fits far more =
      record {
        reads = far.reads ++ (read ∷ []);
        short = short_on size far.reads read far.short fits;
        counted = omega (arith, length-append far.reads (read ∷ []), far.counted);
        going = going_on far.reads read from far.going (sym (ap (λ (s : Standing S). m.ended s.state) far.is_turned) ∙ more);
        is_turned = ap (λ (s : Standing S). (turned m read s).after) far.is_turned ∙ sym (one_turn_more m far.reads read from);
      }

  -- Nothing is left to answer once the run has ended.
  pub ended_answers_none : (s : Standing S) → m.ended s.state ≡ true → last_answered m s ≡ s.state
  ended_answers_none s ended = ap (λ (o : Outcome (List ℕ) S). o.after) (none_once_ended m (last_line s.pending) s.state ended)
