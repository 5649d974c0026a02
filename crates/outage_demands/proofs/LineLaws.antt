-- The rows that the program makes of its lines: none of them was granted before the run. And what it prints for lines after the last that can have a row.
use Prim.Native.Nat.{ℕ, zero, suc, ◌+◌, ◌*◌, ◌-◌, ◌%◌, ◌^◌, ◌≤◌, ◌<◌}
use native.Mathlib.Omega.{arith}
use native.Mathlib.Nat.{add-zero, mod-eq_of_lt}
use mathlib.Core.Path.{◌≡◌, refl, sym, ap, ◌∙◌}
use mathlib.Core.Bool.{true, false, true≢false}
use mathlib.Core.List.{List, [], ◌∷◌, ◌++◌, append-nil, append_assoc}
use lib.ListN.{length}
use borrow.Author.Tests.{eq-eqb, ne_eqb}
use Rattle.arith.proofs.Cases.{by_test}
use Rattle.rows.specs.Outcome.{Outcome, outcome}
use Rattle.settings.specs.declared.Settings.{Settings}
use Rattle.desk_lines.specs.declared.Line.{Line}
use Rattle.desk_lines.specs.declared.Line.TheVariants as Line
use Rattle.desk_lines.specs.Lines.{line_of}
use Rattle.desk_answers.specs.declared.Stage.{Stage}
use Rattle.desk_answers.specs.declared.Stage.TheVariants as Stage
use Rattle.desk_answers.specs.Desk.{has_ended}
use Rattle.desk_cutting.specs.Answering.{and_then, lines_answered}
use Rattle.outage_rows.specs.declared.Row.{Row}
use Rattle.outage_rows.specs.Model.{most_tries, row_at, is_live, ran, outage}
use Rattle.outage_rows.proofs.RunLaws.{outage_ends_all}
use Rattle.outage_rows.proofs.EndLaws.{ended_stays, denied_made_all}
use Rattle.outage_rows.specs.Printed.{printed_row, printed_from}
use Rattle.outage_run.specs.Run.{Village, malformed_row, row_of_line, next_number, comes_up, line_taken, village, finished}
use Rattle.outage_run.proofs.StepLaws.{open_comes_up}
use Rattle.outage_demands.specs.Village.{NoneGrantedYet, rows_of, printed_past, fresh}

-- The row of a line is live, or has code 9.
line_not_granted : (line : Line) → is_live (row_of_line line) ≡ false → (row_of_line line).code ≡ 0 → ⊥
line_not_granted (Line.Try q) off code = true≢false off
line_not_granted (Line.SetUp s) off code = omega arith
line_not_granted (Line.Peek q) off code = omega arith
line_not_granted (Line.Reserve q longest) off code = omega arith
line_not_granted (Line.Refund key cost) off code = omega arith
line_not_granted (Line.Remove key) off code = omega arith
line_not_granted Line.Malformed off code = omega arith

pub lines_not_granted : (lines : List (List ℕ)) → NoneGrantedYet (rows_of lines)
lines_not_granted [] j b off code = omega arith
lines_not_granted (line ∷ lines) zero b off code = line_not_granted (line_of line) off code
lines_not_granted (line ∷ lines) (suc j) b off code = lines_not_granted lines j (omega arith) off code

module _ (s : Settings) where
  -- Once line 1 is accepted, lines become rows in their order while there is room, and nothing is printed for them.
  abbrev pub taken : List (List ℕ) → Village → Village
  taken lines v = record {
    stage = v.stage;
    number = v.number + length lines;
    room = v.room - length lines;
    rows = v.rows ++ rows_of lines;
    memory = v.memory;
  }

  one_line_taken : (line : List ℕ) (v : Village) → v.stage ≡ Stage.Open s → 0 < v.room → v.number + 1 < 2 ^ 64
      → line_taken line v ≡ outcome [] (taken (line ∷ []) v)
  unfolding line_taken
  one_line_taken line v is some few =
      let counts : (v.number + 1) % 2 ^ 64 ≡ v.number + 1 = mod-eq_of_lt few in
      rw (counts, is, ne_eqb v.room 0 (λ none. omega (arith, none, some)))

  pub lines_become_rows : (lines : List (List ℕ)) (v : Village) → v.stage ≡ Stage.Open s → length lines ≤ v.room → v.number + length lines < 2 ^ 64
      → lines_answered village lines v ≡ outcome [] (taken lines v)
  unfolding lines_answered
  lines_become_rows [] v is fits few = let same : v.room - 0 ≡ v.room = omega arith in rw (add-zero v.number, append-nil v.rows, same)
  lines_become_rows (line ∷ lines) v is fits few =
      let first = one_line_taken line v is (omega arith) (omega arith) in
      let count : v.number + 1 + length lines ≡ v.number + suc (length lines) = omega arith in
      let left : v.room - 1 - length lines ≡ v.room - suc (length lines) = omega arith in
      let rest = lines_become_rows lines (taken (line ∷ []) v) is (omega arith) (omega arith) in
      let goes_on : has_ended v.stage ≡ false = ap has_ended is in
      rw (goes_on, first, rest, append_assoc v.rows, count, left)

  -- Without rows nothing is printed.
  none_come_up : (v : Village) → v.rows ≡ [] → (comes_up s v).answer ≡ []
  unfolding comes_up ran printed_from
  none_come_up v none = rw none

  -- Past the last row: the rows are printed once, and then line after line.
  past_line : (line : List ℕ) (v : Village) → v.stage ≡ Stage.Open s → v.room ≡ 0
      → line_taken line v ≡ outcome ((comes_up s v).answer ++ printed_row (next_number v.number) malformed_row)
      (record { stage = v.stage; number = next_number v.number; room = v.room; rows = []; memory = (comes_up s v).after.memory })
  unfolding line_taken
  past_line line v is none = rw (is, eq-eqb v.room 0 none)

  pub past_prints : (lines : List (List ℕ)) (v : Village) → v.stage ≡ Stage.Open s → (0 < length lines → v.room ≡ 0)
      → (and_then (lines_answered village lines v) finished).answer ≡ (comes_up s v).answer ++ printed_past (next_number v.number) lines
  unfolding lines_answered printed_past
  past_prints [] v is none =
      ap (λ (o : Outcome (List ℕ) Village). o.answer) (sym (open_comes_up s v is)) ∙ sym (append-nil (comes_up s v).answer)
  past_prints (line ∷ lines) v is none =
      let goes_on : has_ended v.stage ≡ false = ap has_ended is in
      let row = printed_row (next_number v.number) malformed_row in
      let next : Village = record {
        stage = v.stage;
        number = next_number v.number;
        room = v.room;
        rows = [];
        memory = (comes_up s v).after.memory;
      } in
      let rest = past_prints lines next is (λ some. none (omega arith)) in
      let quiet = none_come_up next refl in
      rw (goes_on, past_line line v is (none (omega arith)))
      (append_assoc ((comes_up s v).answer ++ row) (lines_answered village lines next).answer (finished (lines_answered village lines next).after).answer
      ∙ ap (λ (l : List ℕ). ((comes_up s v).answer ++ row) ++ l) (rest ∙ ap (λ (l : List ℕ). l ++ printed_past (next_number next.number) lines) quiet)
      ∙ append_assoc (comes_up s v).answer row (printed_past (next_number next.number) lines))

-- A line that is answered 1 has made all its tries: a row that does not wait at the start has code 9, and keeps it.
line_ended_is_9 : (line : Line) → is_live (row_of_line line) ≡ false → (row_of_line line).code ≡ 9
line_ended_is_9 (Line.Try q) off = absurd (true≢false off)
line_ended_is_9 (Line.SetUp s) off = refl
line_ended_is_9 (Line.Peek q) off = refl
line_ended_is_9 (Line.Reserve q longest) off = refl
line_ended_is_9 (Line.Refund key cost) off = refl
line_ended_is_9 (Line.Remove key) off = refl
line_ended_is_9 Line.Malformed off = refl

ended_is_9 : (lines : List (List ℕ)) (j : ℕ) → j < length (rows_of lines) → is_live (row_at (rows_of lines) j) ≡ false → (row_at (rows_of lines) j).code ≡ 9
ended_is_9 [] j b off = absurd (omega arith)
ended_is_9 (line ∷ lines) zero b off = line_ended_is_9 (line_of line) off
ended_is_9 (line ∷ lines) (suc j) b off = ended_is_9 lines j (omega arith) off

pub denied_line_made_all : (s : Settings) (ws : List ℕ) (lines : List (List ℕ)) (j : ℕ) → j < length (rows_of lines)
    → let ends = (outage s (fresh s ws (rows_of lines) [])).rows in (row_at ends j).code ≡ 1 → (row_at ends j).tries ≡ most_tries
denied_line_made_all s ws lines j b code =
    let v = fresh s ws (rows_of lines) [] in
    let n : ℕ = most_tries * length (rows_of lines) in
    by_test (is_live (row_at (rows_of lines) j))
    (λ live. denied_made_all s n v j live (outage_ends_all s v j b) code)
    (λ off. let kept = ap (λ (row : Row). row.code) (ended_stays s n v j off) in absurd (omega (arith, kept, ended_is_9 lines j b off, code)))
