-- A run comes on by a turn with each read, and is over at the end of the input or where a turn is the last.
use Prim.Native.Nat.{ℕ, ◌+◌, ◌-◌, ◌≤◌}
use native.Mathlib.Omega.{arith}
use mathlib.Core.Path.{◌≡◌, refl, sym, ap, ◌∙◌}
use mathlib.Core.Bool.{true, false}
use mathlib.Core.List.{List}
use lib.ListN.{length, take, drop, length-take, length-drop}
use Rattle.rows.specs.Segments.{segment}
use Rattle.rows.proofs.OutcomeLaws.{after_is}
use Rattle.desk_lines.specs.Lines.{longest_line}
use Rattle.desk_turns.specs.declared.Feed.{Feed}
use Rattle.desk_turns.specs.declared.Turned.{Turned}
use Rattle.desk_turns.specs.Feeding.{state_of, OneTurn, LastLine}
use Rattle.desk_turns.specs.Run.{State, Standing, desk, has_ended, lines_answered, lines_of, turned, joined}
use Rattle.desk_cutting.proofs.ReadingLaws.{one_more, ended_answers_none}
use Rattle.desk_turns.proofs.CuttingLaws.{turn_is_turned, every_cutting_stands_the_same}
use Rattle.desk_feed.specs.declared.Ran.{Ran}
use Rattle.desk_feed.specs.declared.Ending.TheVariants.{Input, Refused, Read, Write, LastWrite, Turns}
use Rattle.desk_feed.specs.Ran.{standing, at_start, TurnedTo, with_last, last_answered, most_turns, AtEnd, RanFrom}

-- How the loop stands at its head.
pub record GoingOn (input₀ : List ℕ) (pending₀ : ℕ) (output₀ memory₀ : List ℕ) (f₀ : Feed) (input : List ℕ) (pending : ℕ) (output memory : List ℕ) (f : Feed)
    (turns : ℕ) : Type 0 where
  pub same_input : length input ≡ length input₀
  pub same_output : length output ≡ length output₀
  pub same_memory : length memory ≡ length memory₀
  pub few : pending ≤ longest_line + 1
  pub counted : turns ≤ most_turns
  pub more : has_ended f.stage ≡ false
  pub far : TurnedTo (standing pending₀ input₀ f₀ memory₀) (length input₀) turns (standing pending input f memory)

-- A turn after a read, which leaves the bytes that are pending.
module _ (input₀ : List ℕ) {from : Standing} {size turns pending end : ℕ} {f : Feed} {input memory output : List ℕ} {r : Turned}
    {input' memory' output' : List ℕ}
    (far : TurnedTo from size turns (standing pending input₀ f memory)) (was_going : has_ended f.stage ≡ false)
    (stays : take pending input ≡ take pending input₀) (within : pending ≤ end)
    (fits : length input ≤ size)
    (one : OneTurn f end input memory output r input' memory' output') where
  abbrev read : List ℕ
  read = segment pending (end - pending) input

  abbrev next : Standing
  next = (turned read (standing pending input f memory)).after

  next_turned : TurnedTo from size (turns + 1) next
  next_turned = one_more desk read (omega (arith, fits, length-take (end - pending) (drop pending input), length-drop pending input)) (rw stays far) was_going

  stands_next : state_of r.feed memory' ≡ next.state
  stands_next = (turn_is_turned pending within one).1

  pub goes_on : has_ended r.feed.stage ≡ false → TurnedTo from size (turns + 1) (standing r.pending input' r.feed memory')
  goes_on more =
      let keeps = (turn_is_turned pending within one).2 more in
      let same : standing r.pending input' r.feed memory' ≡ next = λ j. record { pending = keeps j; state = stands_next j } in
      rw same next_turned

  pub over_by_write : RanFrom from size (record { ending = Write; feed = r.feed; turns = turns + 1 }) memory'
  over_by_write = record { to = next; turned_to = next_turned; stands = stands_next; rightly = omega arith }

  pub over_by_line_1 : has_ended r.feed.stage ≡ true → RanFrom from size (record { ending = Refused; feed = r.feed; turns = turns + 1 }) memory'
  over_by_line_1 ended =
      let ended' : has_ended next.state.stage ≡ true = sym (ap (λ (s : State). has_ended s.stage) stands_next) ∙ ended in
      record { to = next; turned_to = next_turned; stands = stands_next ∙ sym (ended_answers_none desk next ended'); rightly = ended }

-- Without a turn.
module _ (pending : ℕ) (input : List ℕ) (f : Feed) {from : Standing} {size turns : ℕ} {memory : List ℕ}
    (far : TurnedTo from size turns (standing pending input f memory)) where
  pub over_by_read : has_ended f.stage ≡ false → RanFrom from size (record { ending = Read; feed = f; turns = turns }) memory
  over_by_read more = record { to = standing pending input f memory; turned_to = far; stands = refl; rightly = more }

  pub over_by_turns : has_ended f.stage ≡ false → turns ≡ most_turns → RanFrom from size (record { ending = Turns; feed = f; turns = turns }) memory
  over_by_turns more all = record { to = standing pending input f memory; turned_to = far; stands = refl; rightly = (more, all) }

  pub over_at_end : (input₁ : List ℕ) {r : Ran} {memory' : List ℕ} → take pending input₁ ≡ take pending input
      → AtEnd (standing pending input₁ f memory) turns r memory' → RanFrom from size r memory'
  over_at_end input₁ stays end =
      record { to = standing pending input₁ f memory; turned_to = rw (end.counted, stays) far; stands = rw end.last end.stands; rightly = end.rightly }

-- Where the last line is answered, the run stands where the lines of all that was read bring it, whatever the pieces.
pub whole_input_is_answered : {memory memory' : List ℕ} {size : ℕ} {r : Ran} (ran : RanFrom (at_start memory) size r memory') → with_last r.ending ≡ true
    → state_of r.feed memory' ≡ (lines_answered (lines_of (joined ran.turned_to.reads)) (at_start memory).state).after
whole_input_is_answered {memory} ran last =
    let far = ran.turned_to in
    (rw last at ran.stands) ∙ ap last_answered far.is_turned ∙ every_cutting_stands_the_same far.reads (at_start memory).state

-- The last line.
pub last_stands : {f r : Feed} {pending : ℕ} {input memory output memory' output' : List ℕ} → LastLine f pending input memory output r memory' output'
    → state_of r memory' ≡ last_answered (standing pending input f memory)
last_stands last = after_is last.answers
