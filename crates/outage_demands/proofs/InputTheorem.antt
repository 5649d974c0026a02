-- Whole inputs: where line 1 is accepted, what is printed are the rows of the further lines, run on a fresh store; so the window holds of the printed rows.
use Prim.Native.Nat.{ℕ, ◌+◌, ◌*◌, ◌-◌, ◌≤◌, ◌<◌}
use native.Mathlib.Omega.{arith}
use mathlib.Core.Path.{◌≡◌, refl, sym, ap, subst, ◌∙◌}
use mathlib.Core.Bool.{Bool, true, false, cond, false≢true}
use lib.Dec.{leb, eqb}
use mathlib.Core.List.{List, [], ◌∷◌, ◌++◌, append_assoc, append-nil}
use lib.ListN.{length, take, drop, length-take, length-drop, take-append-drop}
use Rattle.arith.proofs.Cases.{by_eq}
use Rattle.rows.specs.Outcome.{Outcome, outcome}
use Rattle.units.specs.Units.{nanos_of}
use Rattle.settings.specs.declared.Limit.TheVariants as Limit
use Rattle.settings.specs.declared.Settings.{Settings}
use Rattle.settings.specs.Eviction.{bounds, when_full_of}
use Rattle.store.specs.Refusals.{set_up_refusal}
use Rattle.rules.specs.declared.Reply.{Reply}
use Rattle.rules.specs.declared.Reply.TheVariants.{Done, Refused}
use Rattle.rules.specs.Replies.{code_of, told_of}
use Rattle.rules.specs.Asks.{with_table}
use Rattle.rules.specs.Rules.{set_up}
use Rattle.rules.proofs.RefusedLaws.{set_up_zeroes, set_up_refusal_is_told}
use Rattle.desk_lines.specs.declared.Line.{Line}
use Rattle.desk_lines.specs.declared.Line.TheVariants.{SetUp, Try, Peek, Reserve, Refund, Remove, Malformed}
use Rattle.desk_lines.specs.Fields.{fields}
use Rattle.desk_lines.specs.Lines as Lines
use Rattle.desk_lines.specs.Lines.{longest_line, Reading, left, taken, taken_idle, taken_rate, taken_request, is_finished, line_of_letter, line_of_fields}
use Rattle.desk_lines.specs.Lines.{line_of}
use Rattle.desk_lines.specs.Lines.{most64, most32, most_rule}
use Rattle.desk_lines.specs.Printed.{printed}
use Rattle.desk_answers.specs.declared.Stage.{Stage}
use Rattle.desk_answers.specs.declared.Stage.TheVariants.{First, Open, Ended}
use Rattle.desk_answers.specs.Desk.{store_size, stage_after, has_ended}
use Rattle.desk_answers.specs.Desk as Desk
use Rattle.desk_cutting.specs.Cutting.{lines_of}
use Rattle.desk_cutting.specs.Answering.{and_then, lines_answered}
use Rattle.desk_cutting.proofs.AnsweringLaws.{answered_in_parts}
use Rattle.outage_rows.specs.declared.Row.{Row}
use Rattle.outage_rows.specs.Printed.{printed_rows}
use Rattle.outage_run.specs.Run.{Village, most_rows, next_number, comes_up, line_taken, village, finished_in, finished, at_start, printed_for}
use Rattle.outage_demands.specs.Village.{rows_of, printed_past, first_past, village_rows, printed_village, InputWindow}
use Rattle.outage_demands.proofs.Theorem.{village_stays_within_the_window}
use Rattle.outage_demands.proofs.LineLaws.{lines_not_granted, lines_become_rows, past_prints}
use Rattle.outage_demands.proofs.LineLaws as LineLaws
use Rattle.outage_demands.proofs.StoreLaws.{village_runs_fresh}

-- Line 1 is answered 0 only where set_up_lem accepts.
accepted_is_done : (s : Settings) (ws : List ℕ) → code_of (set_up s ws).answer ≡ 0 → (set_up s ws).answer ≡ Done
accepted_is_done s ws code =
    let number : ℕ = set_up_refusal (with_table [] s) ws in
    by_eq number 0
    (λ none. ap (λ (o : Outcome Reply (List ℕ)). o.answer) (sym (set_up_zeroes s ws refl none)))
    (λ some.
    let told : code_of (set_up s ws).answer ≡ 10 + number =
    ap (λ (o : Outcome Reply (List ℕ)). code_of o.answer) (sym (set_up_refusal_is_told s ws refl some)) in
    absurd (omega (arith, told, code)))

-- A settings line has no class.
abbrev Classless : Line → Type 0
Classless (SetUp s) = s.classes ≡ 0
Classless (Try q) = Unit {0}
Classless (Peek q) = Unit {0}
Classless (Reserve q longest) = Unit {0}
Classless (Refund key cost) = Unit {0}
Classless (Remove key) = Unit {0}
Classless Malformed = Unit {0}

of_either : (b : Bool) (x y : Line) → Classless x → Classless y → Classless (cond b x y)
of_either true x y one other = one
of_either false x y one other = other

finished_is_classless : (r : Reading) (line : Line) → Classless line → Classless (Lines.finished r line)
finished_is_classless r line own = of_either (is_finished r) line Malformed own tt

set_up_is_classless : (r : Reading) → Classless (Lines.set_up r)
set_up_is_classless r =
    let rate = taken_rate r in
    let keys = taken most64 rate.rest in
    let shards = taken most64 keys.rest in
    let idle = taken_idle shards.rest in
    let rule = taken most_rule idle.rest in
    let eviction = bounds keys.value idle.value (when_full_of rule.value) in
    finished_is_classless rule.rest (SetUp (record { limit = Limit.Open rate.value; eviction = eviction; shards = shards.value; classes = 0 })) refl

letter_is_classless : (letter : ℕ) (r : Reading) → Classless (line_of_letter letter r)
unfolding line_of_letter
letter_is_classless letter r =
    let q = taken_request r in
    let longest = taken most64 q.rest in
    let key = taken most64 r in
    let cost = taken most32 key.rest in
    let set_up_lem = cond (eqb letter 115) (Lines.set_up r) Malformed in
    let remove = cond (eqb letter 100) (Lines.remove r) set_up_lem in
    let refund = cond (eqb letter 102) (Lines.refund r) remove in
    let reserve = cond (eqb letter 114) (Lines.reserve r) refund in
    of_either (eqb letter 97) (Lines.try r) (cond (eqb letter 112) (Lines.peek r) reserve) (finished_is_classless q.rest (Try q.value) tt)
    (of_either (eqb letter 112) (Lines.peek r) reserve (finished_is_classless q.rest (Peek q.value) tt)
    (of_either (eqb letter 114) (Lines.reserve r) refund (finished_is_classless longest.rest (Reserve q.value (nanos_of longest.value)) tt)
    (of_either (eqb letter 102) (Lines.refund r) remove (finished_is_classless cost.rest (Refund key.value cost.value) tt)
    (of_either (eqb letter 100) (Lines.remove r) set_up_lem (finished_is_classless key.rest (Remove key.value) tt)
    (of_either (eqb letter 115) (Lines.set_up r) Malformed (set_up_is_classless r) tt)))))

fields_are_classless : (fs : List (List ℕ)) → Classless (line_of_fields fs)
fields_are_classless [] = tt
fields_are_classless ([] ∷ fs) = tt
fields_are_classless ((letter ∷ []) ∷ fs) = letter_is_classless letter (left fs)
fields_are_classless ((letter ∷ b ∷ bs) ∷ fs) = tt

line_is_classless : (line : List ℕ) → Classless (line_of line)
unfolding line_of
line_is_classless line = of_either (leb (length line) longest_line) (line_of_fields (fields line)) Malformed (fields_are_classless (fields line)) tt

module _ (s : Settings) (memory : List ℕ) (accepted : (Desk.set_up s memory).answer.told.code ≡ 0) where
  -- How the program stands after line 1.
  abbrev opened : Village
  opened = record { stage = Open s; number = 1; room = most_rows; rows = []; memory = (Desk.set_up s memory).after }

  done : (set_up s (take (store_size s (length memory)) memory)).answer ≡ Done
  done = accepted_is_done s (take (store_size s (length memory)) memory) accepted

  line_1_taken : (first : List ℕ) → line_of first ≡ SetUp s → line_taken first (at_start memory) ≡ outcome (printed 1 0 0) opened
  unfolding line_taken stage_after
  line_1_taken first is = rw (is, done)

  -- The further lines: the first 200 become rows, and the others are printed behind them.
  module _ (further : List (List ℕ)) where
    abbrev early : List (List ℕ)
    early = take most_rows further

    abbrev late : List (List ℕ)
    late = drop most_rows further

    abbrev gathered : Village
    gathered = LineLaws.taken s early opened

    few : length early ≤ most_rows
    few = omega (arith, length-take most_rows further)

    full_where_late : 0 < length late → length early ≡ most_rows
    full_where_late some = omega (arith, some, length-take most_rows further, length-drop most_rows further)

    late_from_202 : (lines : List (List ℕ)) → (0 < length lines → length early ≡ most_rows)
        → printed_past (next_number gathered.number) lines ≡ printed_past first_past lines
    unfolding printed_past
    late_from_202 [] full = refl
    late_from_202 (line ∷ lines) full = rw (full (omega arith))

    further_print : (and_then (lines_answered village further opened) finished).answer
        ≡ printed_rows (village_rows s memory further) ++ printed_past first_past late
    further_print =
        let parts : lines_answered village further opened ≡ and_then (lines_answered village early opened) (lines_answered village late) =
        ap (λ (lines : List (List ℕ)). lines_answered village lines opened) (sym (take-append-drop most_rows further))
        ∙ answered_in_parts village early late opened in
        let rows_are = lines_become_rows s early opened refl few (omega (arith, few)) in
        let rest = past_prints s late gathered refl (λ some. omega (arith, full_where_late some)) in
        rw (parts, rows_are)
        (rest ∙ rw (village_runs_fresh s memory gathered refl)
        (ap (λ (l : List ℕ). printed_rows (village_rows s memory further) ++ l) (late_from_202 late full_where_late)))

-- Once the run has ended, further lines print nothing, and so does the end of the input.
nothing_more : (lines : List (List ℕ)) (v : Village) → has_ended v.stage ≡ true → lines_answered village lines v ≡ outcome [] v
unfolding lines_answered
nothing_more [] v ended = refl
nothing_more (line ∷ lines) v ended = rw ended

nothing_in : (stage : Stage) (v : Village) → has_ended stage ≡ true → finished_in stage v ≡ outcome [] v
nothing_in First v ended = refl
nothing_in (Open s) v ended = absurd (false≢true ended)
nothing_in (Ended code) v ended = refl

nothing_finished : (v : Village) → has_ended v.stage ≡ true → finished v ≡ outcome [] v
unfolding finished
nothing_finished v ended = nothing_in v.stage v ended

-- Where line 1 is no settings line or is refused, it is answered as by the desk, and nothing else is printed.
pub refused_input_prints_one_line : (input memory first : List ℕ) (further : List (List ℕ)) → lines_of input ≡ first ∷ further
    → has_ended (Desk.opened (line_of first) memory).answer.stage ≡ true
    → printed_for input memory ≡ (let told = (Desk.opened (line_of first) memory).answer.told in printed 1 told.code told.number)
unfolding lines_answered line_taken
refused_input_prints_one_line input memory first further lines ended =
    let o = Desk.opened (line_of first) memory in
    let v = (line_taken first (at_start memory)).after in
    rw (lines, nothing_more further v ended, nothing_finished v ended)
    (append-nil _ ∙ append-nil (printed 1 o.answer.told.code o.answer.told.number))

-- What is printed for an input whose line 1 is accepted.
pub input_prints_its_village : (input memory first : List ℕ) (further : List (List ℕ)) (s : Settings) → lines_of input ≡ first ∷ further
    → line_of first ≡ SetUp s
    → (Desk.set_up s memory).answer.told.code ≡ 0 → printed_for input memory ≡ printed_village s memory further
unfolding lines_answered
input_prints_its_village input memory first further s lines is accepted =
    let o = lines_answered village further (opened s memory accepted) in
    rw (lines, line_1_taken s memory accepted first is)
    (append_assoc (printed 1 0 0) o.answer (finished o.after).answer
    ∙ ap (λ (l : List ℕ). printed 1 0 0 ++ l) (further_print s memory accepted further))

-- So the window holds of the printed rows of every input.
pub every_input_stays_within_the_window : InputWindow
every_input_stays_within_the_window input memory first further s rate lines is accepted rated refuses apart = (
  input_prints_its_village input memory first further s lines is accepted,
  village_stays_within_the_window s rate (take (store_size s (length memory)) memory) (subst Classless is (line_is_classless first)) rated refuses
      (done s memory accepted)
      (rows_of (take most_rows further)) [] (lines_not_granted (take most_rows further)) apart,
)
