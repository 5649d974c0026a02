-- A run comes on by a turn with each read, and is over at the end of the input or where a turn is the last.
use Prim.Native.Nat.{ℕ, ◌+◌, ◌-◌, ◌≤◌}
use native.Mathlib.Omega.{arith}
use mathlib.Core.Path.{◌≡◌, refl, sym, ap, ◌∙◌}
use mathlib.Core.Bool.{true, false, true≢false}
use mathlib.Core.List.{List, ◌++◌}
use lib.ListN.{length, take, drop, length-take, length-drop}
use lib.Seq.{take-add}
use Rattle.rows.specs.Outcome.{Outcome, outcome}
use Rattle.rows.specs.Rows.{rows}
use Rattle.rows.specs.Segments.{segment}
use Rattle.rows.proofs.OutcomeLaws.{answer_is, after_is}
use Rattle.desk_lines.specs.Lines.{longest_line}
use Rattle.desk_answers.specs.declared.Stage.{Stage}
use Rattle.desk_answers.specs.declared.Stage.TheVariants.{First, Open, Ended}
use Rattle.desk_answers.specs.Desk.{has_ended}
use Rattle.desk_cutting.specs.Cutting.{joined, lines_of}
use Rattle.desk_cutting.specs.Answering.{lines_answered, turned}
use Rattle.desk_cutting.proofs.ReadingLaws.{one_more, ended_answers_none}
use Rattle.desk_cutting.proofs.AnsweringLaws.{every_cutting_stands_the_same}
use Rattle.desk_feed.specs.declared.Ending.TheVariants.{Input, Refused, Read, Write, LastWrite, Turns}
use Rattle.desk_feed.specs.Ran.{with_last, most_turns}
use Rattle.outage_run.specs.declared.Feed.{Feed}
use Rattle.outage_run.specs.declared.Turned.{Turned}
use Rattle.outage_run.specs.Feeding.{village_of, rows_to_print, OneTurn, LastLine}
use Rattle.outage_rows.specs.Layout.{rows_in}
use Rattle.outage_run.specs.Run.{Village, village, finished, most_rows}
use Rattle.outage_run.proofs.RunLaws.{village_by_line}
use Rattle.outage_feed.specs.declared.Ran.{Ran}
use Rattle.outage_feed.specs.Ran.{Standing, standing, at_start, TurnedTo, last_finished, AtEnd, RanFrom}

-- How the loop stands at its head.
pub record GoingOn (input₀ : List ℕ) (pending₀ : ℕ) (output₀ rs₀ memory₀ : List ℕ) (f₀ : Feed) (input : List ℕ) (pending : ℕ) (output rs memory : List ℕ)
    (f : Feed) (turns : ℕ) : Type 0 where
  pub same_input : length input ≡ length input₀
  pub same_output : length output ≡ length output₀
  pub same_rs : length rs ≡ length rs₀
  pub same_memory : length memory ≡ length memory₀
  pub few : pending ≤ longest_line + 1
  pub rows : rows_to_print f ≤ rows_to_print f₀
  pub counted : turns ≤ most_turns
  pub more : has_ended f.stage ≡ false
  pub far : TurnedTo (standing pending₀ input₀ f₀ rs₀ memory₀) (length input₀) turns (standing pending input f rs memory)

-- What the contract of `turn` says of the buffers is a turn: the bytes that were pending, and after them those that were read.
turn_is_turned : {f : Feed} {end : ℕ} {input rs memory output : List ℕ} {r : Turned} {input' rs' memory' output' : List ℕ} (pending : ℕ) → pending ≤ end
    → OneTurn f end input rs memory output r input' rs' memory' output'
    → let t = turned village (segment pending (end - pending) input) (record { pending = take pending input; state = village_of f rs memory }) in
    (village_of r.feed rs' memory' ≡ t.after.state) × (has_ended r.feed.stage ≡ false → take r.pending input' ≡ t.after.pending)
unfolding turned
turn_is_turned {end = end} {input = input} pending within one =
    let place : pending + (end - pending) ≡ end = omega (arith, within) in
    let whole : take pending input ++ segment pending (end - pending) input ≡ take end input =
    sym (take-add pending (end - pending) input) ∙ ap (λ (k : ℕ). take k input) place in
    rw whole (after_is one.answers, one.keeps)

-- Nothing is left to take or to run once the run has ended.
none_in : (stage : Stage) (v : Village) → v.stage ≡ stage → has_ended stage ≡ true → (finished v).after ≡ v
unfolding finished
none_in First v is ended = rw is
none_in (Open s) v is ended = absurd (true≢false (sym ended))
none_in (Ended code) v is ended = rw is

ended_finishes_none : (s : Standing) → has_ended s.state.stage ≡ true → last_finished s ≡ s.state
ended_finishes_none s ended =
    ap (λ (v : Village). (finished v).after) (ended_answers_none village s ended) ∙ none_in s.state.stage s.state refl ended

-- A turn after a read, which leaves the bytes that are pending.
module _ (input₀ : List ℕ) {from : Standing} {size turns pending end : ℕ} {f : Feed} {input rs memory output : List ℕ} {r : Turned}
    {input' rs' memory' output' : List ℕ}
    (far : TurnedTo from size turns (standing pending input₀ f rs memory)) (was_going : has_ended f.stage ≡ false)
    (stays : take pending input ≡ take pending input₀) (within : pending ≤ end)
    (fits : length input ≤ size)
    (one : OneTurn f end input rs memory output r input' rs' memory' output') where
  abbrev read : List ℕ
  read = segment pending (end - pending) input

  abbrev next : Standing
  next = (turned village read (standing pending input f rs memory)).after

  next_turned : TurnedTo from size (turns + 1) next
  next_turned =
      one_more village read (omega (arith, fits, length-take (end - pending) (drop pending input), length-drop pending input)) (rw stays far) was_going

  stands_next : village_of r.feed rs' memory' ≡ next.state
  stands_next = (turn_is_turned pending within one).0

  pub goes_on : has_ended r.feed.stage ≡ false → TurnedTo from size (turns + 1) (standing r.pending input' r.feed rs' memory')
  goes_on more =
      let keeps = (turn_is_turned pending within one).1 more in
      let same : standing r.pending input' r.feed rs' memory' ≡ next = λ j. record { pending = keeps j; state = stands_next j } in
      rw same next_turned

  pub over_by_write : RanFrom from size (record { ending = Write; feed = r.feed; turns = turns + 1 }) rs' memory'
  over_by_write = record { to = next; turned_to = next_turned; stands = stands_next; rightly = omega arith }

  pub over_by_line_1 : has_ended r.feed.stage ≡ true → RanFrom from size (record { ending = Refused; feed = r.feed; turns = turns + 1 }) rs' memory'
  over_by_line_1 ended =
      let ended' : has_ended next.state.stage ≡ true = sym (ap (λ (v : Village). has_ended v.stage) stands_next) ∙ ended in
      record { to = next; turned_to = next_turned; stands = stands_next ∙ sym (ended_finishes_none next ended'); rightly = ended }

-- Without a turn.
module _ (pending : ℕ) (input : List ℕ) (f : Feed) {from : Standing} {size turns : ℕ} (rs memory : List ℕ)
    (far : TurnedTo from size turns (standing pending input f rs memory)) where
  pub over_by_read : has_ended f.stage ≡ false → RanFrom from size (record { ending = Read; feed = f; turns = turns }) rs memory
  over_by_read more = record { to = standing pending input f rs memory; turned_to = far; stands = refl; rightly = more }

  pub over_by_turns : has_ended f.stage ≡ false → turns ≡ most_turns → RanFrom from size (record { ending = Turns; feed = f; turns = turns }) rs memory
  over_by_turns more all = record { to = standing pending input f rs memory; turned_to = far; stands = refl; rightly = (more, all) }

  pub over_at_end : (input₁ : List ℕ) {r : Ran} {rs' memory' : List ℕ} → take pending input₁ ≡ take pending input
      → AtEnd (standing pending input₁ f rs memory) turns r rs' memory' → RanFrom from size r rs' memory'
  over_at_end input₁ stays end =
      record {
        to = standing pending input₁ f rs memory;
        turned_to = rw (end.counted, stays) far;
        stands = rw end.last
            end.stands;
        rightly = end.rightly;
      }

-- Where the input has ended, the run stands where the lines of all that was read bring it, whatever the pieces, once the rows are run.
pub whole_input_is_taken : {memory rs' memory' : List ℕ} {size : ℕ} {r : Ran} (ran : RanFrom (at_start memory) size r rs' memory') → with_last r.ending ≡ true
    → village_of r.feed rs' memory' ≡ (finished (lines_answered village (lines_of (joined ran.turned_to.reads)) (at_start memory).state).after).after
whole_input_is_taken {memory} ran last =
    let far = ran.turned_to in
    (rw last at ran.stands) ∙ ap last_finished far.is_turned
    ∙ ap (λ (v : Village). (finished v).after) (every_cutting_stands_the_same village village_by_line far.reads (at_start memory).state)

-- The last line.
pub last_stands : {f r : Feed} {pending : ℕ} {input rs memory output rs' memory' output' : List ℕ}
    → LastLine f pending input rs memory output r rs' memory' output' → village_of r rs' memory' ≡ last_finished (standing pending input f rs memory)
last_stands last = after_is last.answers

-- Before line 1 no row waits, whatever the words of the rows are.
pub starts_at_line_1 : (input rs memory : List ℕ)
    → standing 0 input (record { stage = First; number = 0; count = 0; room = most_rows; put = 0 }) rs memory ≡ at_start memory
unfolding rows_in rows
starts_at_line_1 input rs memory = refl
