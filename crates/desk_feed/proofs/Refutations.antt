-- What wrong programs leave does not meet the contract of `go_on`: one that leaves the last line unanswered, one that drops the bytes that are pending,
-- one that stops after its first read, and one that reads on after a line 1 that is not accepted.
use Prim.Native.Nat.{ℕ, ◌+◌}
use native.Mathlib.Omega.{arith}
use mathlib.Core.Path.{◌≡◌, refl, sym, ap, ◌∙◌}
use mathlib.Core.Bool.{Bool, true, false, true≢false}
use mathlib.Core.List.{List, [], ◌∷◌}
use lib.Dec.{leb}
use lib.ListN.{length, take}
use Rattle.arith.proofs.Cases.{by_test}
use Rattle.rows.specs.Outcome.{Outcome}
use Rattle.desk_lines.specs.Fields as Fields
use Rattle.desk_lines.specs.declared.Line.TheVariants.{Malformed}
use Rattle.desk_lines.specs.Lines.{longest_line, line_of_letter, line_of_fields, line_of}
use Rattle.desk_answers.specs.declared.Stage.{Stage}
use Rattle.desk_answers.specs.declared.Stage.TheVariants.{First, Open, Ended}
use Rattle.desk_cutting.specs.Answering as Answering
use Rattle.desk_cutting.specs.Reading.{EachWhileGoing}
use Rattle.desk_turns.specs.declared.Feed.{Feed}
use Rattle.desk_turns.specs.Run.{State, Standing, desk, has_ended, line_answered, lines_answered, on_first, cut, last_line, kept_of, turned_over, joined}
use Rattle.desk_turns.proofs.RunLaws.{none_once_ended}
use Rattle.desk_turns.proofs.CuttingLaws.{stands_from}
use Rattle.desk_feed.specs.declared.Ran.{Ran}
use Rattle.desk_feed.specs.declared.Ending.{Ending}
use Rattle.desk_feed.specs.declared.Ending.TheVariants.{Input, Turns}
use Rattle.desk_feed.specs.Ran.{with_last, last_answered, over_at, TurnedTo, RanFrom}

-- Before line 1, of which the byte `x` (120) is pending.
abbrev before_line1 : List ℕ → State
before_line1 memory = record { stage = First; number = 0; memory = memory }

abbrev x_pending : List ℕ → Standing
x_pending memory = record { pending = 120 ∷ []; state = before_line1 memory }

nothing_read : {from to : Standing} (reads : List (List ℕ)) → length reads ≡ 0 → to ≡ turned_over reads from → to ≡ from
unfolding Answering.turned_over
nothing_read [] none is = is
nothing_read (read ∷ reads) none is = absurd (omega (arith, none))

first_read_while_going : (s : Standing) (turns : ℕ) (reads : List (List ℕ)) → length reads ≡ turns + 1 → EachWhileGoing desk reads s
    → has_ended s.state.stage ≡ false
unfolding EachWhileGoing
first_read_while_going s turns [] counted going = absurd (omega (arith, counted))
first_read_while_going s turns (read ∷ reads) counted going = going.0

-- The input ends without a read. A run that stands then where it stood has not answered the line that was pending.
pub last_line_has_to_be_answered : (memory memory' : List ℕ) (size put : ℕ)
    → RanFrom (x_pending memory) size (record { ending = Input; feed = record { stage = First; number = 0; put = put }; turns = 0 }) memory' → ⊥
unfolding Answering.lines_answered line_answered line_of line_of_letter Fields.fields
last_line_has_to_be_answered memory memory' size put ran =
    let far = ran.turned_to in
    let here : ran.to ≡ x_pending memory = nothing_read far.reads far.counted far.is_turned in
    let numbers : ◌≡◌ {A = ℕ} 0 1 = ap (λ (s : State). s.number) (ran.stands ∙ ap last_answered here) in
    omega (arith, numbers)

-- No run is over for its turns after the first.
pub reads_have_to_go_on : {from : Standing} {size : ℕ} {f : Feed} {memory' : List ℕ}
    → RanFrom from size (record { ending = Turns; feed = f; turns = 1 }) memory' → ⊥
reads_have_to_go_on ran = omega (arith, ran.rightly.1)

-- No run reads on once it has ended.
pub no_read_is_made_once_ended : {from to : Standing} {size : ℕ} (turns : ℕ) → TurnedTo from size (turns + 1) to → has_ended from.state.stage ≡ true → ⊥
no_read_is_made_once_ended {from} turns far ended =
    true≢false (sym ended ∙ first_read_while_going from turns far.reads far.counted far.going)

-- A line that begins with `x` is malformed, whatever follows; as line 1 it ends the run.
x_is_no_letter : (fs : List (List ℕ)) → line_of_fields (Fields.on_first 120 fs) ≡ Malformed
unfolding line_of_letter
x_is_no_letter [] = refl
x_is_no_letter ([] ∷ fs) = refl
x_is_no_letter ((b ∷ bs) ∷ fs) = refl

x_is_malformed : (line : List ℕ) → line_of (120 ∷ line) ≡ Malformed
unfolding line_of Fields.fields
x_is_malformed line = by_test (leb (length (120 ∷ line)) longest_line) (λ short. rw short (x_is_no_letter (Fields.fields line))) (λ long. rw long)

x_ends_the_run : (line : List ℕ) (lines : List (List ℕ)) (memory : List ℕ)
    → (lines_answered ((120 ∷ line) ∷ lines) (before_line1 memory)).after ≡ record { stage = Ended 9; number = 1; memory = memory }
unfolding Answering.lines_answered line_answered
x_ends_the_run line lines memory =
    rw (x_is_malformed line) (ap (λ (o : Outcome (List ℕ) State). o.after) (none_once_ended lines (record {
      stage = Ended 9;
      number = 1;
      memory = memory;
    }) refl))

-- So whatever is read after it, the desk is never opened.
abbrev pub is_open : Stage → Bool
is_open First = false
is_open (Open settings) = true
is_open (Ended code) = false

shut_once_ended : (ending : Ending) (pending : List ℕ) {s : State} (memory : List ℕ) → s ≡ record { stage = Ended 9; number = 1; memory = memory }
    → is_open (over_at ending (record { pending = pending; state = s })).stage ≡ false
shut_once_ended ending pending memory is =
    let ended : State = record { stage = Ended 9; number = 1; memory = memory } in
    rw is (by_test (with_last ending) (λ last. rw last (ap (λ (o : Outcome (List ℕ) State). is_open o.after.stage) (none_once_ended
    (last_line pending) ended refl))) (λ none. rw none))

shut_after_x : (ending : Ending) (lines : List (List ℕ)) (rest memory : List ℕ)
    → is_open (over_at ending (record {
      pending = kept_of (on_first 120 lines rest).rest;
      state = (lines_answered (on_first 120 lines rest).lines
          (before_line1 memory)).after;
    })).stage ≡ false
unfolding Answering.lines_answered
shut_after_x ending [] rest memory = by_test (with_last ending) (λ last. rw last (ap (λ (s : State). is_open s.stage) (x_ends_the_run
    (take 100 rest) [] memory))) (λ none. rw none)
shut_after_x ending (line ∷ lines) rest memory = shut_once_ended ending (kept_of rest) memory (x_ends_the_run line lines memory)

-- A program that drops the `x` and opens the desk by the settings line that comes next does not meet the contract.
pub pending_bytes_have_to_be_kept : {memory memory' : List ℕ} {size : ℕ} {r : Ran} → RanFrom (x_pending memory) size r memory' → is_open r.feed.stage ≡ false
unfolding cut
pending_bytes_have_to_be_kept {memory} {r = r} ran =
    let far = ran.turned_to in
    let rest = cut (joined far.reads) in
    let stands = far.is_turned ∙ stands_from (120 ∷ []) (refl, tt) far.reads (before_line1 memory) in
    ap (λ (s : State). is_open s.stage) (ran.stands ∙ ap (over_at r.ending) stands) ∙ shut_after_x r.ending rest.lines rest.rest memory
