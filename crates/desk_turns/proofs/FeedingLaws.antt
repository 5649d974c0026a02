-- A line is served, and its answer printed after what stood printed.
use Rattle.std.proofs.Common.{◌≡◌, ℕ, ◌+◌, ◌-◌, ◌%◌, ◌^◌, ◌≤◌, List, ◌++◌, length, take, refl, arith, length-append}
use Rattle.rows.specs.Outcome.{Outcome, outcome}
use Rattle.rows.proofs.OutcomeLaws.{answer_is, after_is}
use Rattle.desk_lines.specs.Fields.{space}
use Rattle.desk_lines.specs.Lines.{line_of}
use Rattle.desk_lines.specs.Printed.{line_feed, longest_printed, printed_field, printed, written_over}
use Rattle.desk_lines.proofs.PrintLaws.{field_short}
use Rattle.desk_answers.specs.declared.Served.{Served}
use Rattle.desk_answers.specs.Desk.{served}
use Rattle.desk_cutting.proofs.WrittenLaws.{written_on, beyond_written}
use Rattle.desk_cutting.proofs.UnderwayLaws as Cutting
use Rattle.desk_turns.specs.declared.Feed.{Feed}
use Rattle.desk_turns.specs.Feeding.{state_of, unprinted, fed, SameFrom, OneLine}
use Rattle.desk_turns.specs.Run.{State, desk, line_answered, and_then, lines_answered, cut}

-- A printed line has no more bytes than there is room for.
pub printed_short : (number code wait : ℕ) → length (printed number code wait) ≤ longest_printed
printed_short number code wait =
    let second = printed_field code space ++ printed_field wait line_feed in
    omega (
      arith,
      field_short number space,
      field_short code space,
      field_short wait line_feed,
      length-append (printed_field number space) second,
      length-append (printed_field code space) (printed_field wait line_feed),
    )

-- A line was served and its answer printed: it is answered.
line_is_answered : (f : Feed) (line memory output : List ℕ) {number put' : ℕ} {told : Served} {memory' output' : List ℕ}
    → f.put + longest_printed ≤ length output
    → number ≡ (f.number + 1) % 2 ^ 64 → outcome told memory' ≡ served f.stage (line_of line) memory
    → outcome put' output' ≡ written_over (printed number told.told.code told.told.number) f.put output
    → fed (record { stage = told.stage; number = number; put = put' }) memory' output' ≡ and_then (fed f memory output) (line_answered line)
unfolding line_answered
line_is_answered f line memory output {number} {told = told} room counts gave prints =
    let new = printed number told.told.code told.told.number in
    rw (
      written_on new f.put output (omega (arith, room, printed_short number told.told.code told.told.number)) prints,
      counts,
      answer_is gave,
      after_is gave,
    )

pub line_is_one : (f : Feed) (line memory output : List ℕ) {number put' : ℕ} {told : Served} {memory' output' : List ℕ}
    → f.put + longest_printed ≤ length output → number ≡ (f.number + 1) % 2 ^ 64 → outcome told memory' ≡ served f.stage (line_of line) memory
    → outcome put' output' ≡ written_over (printed number told.told.code told.told.number) f.put output
    → OneLine f line memory output (record { stage = told.stage; number = number; put = put' }) memory' output'
line_is_one f line memory output {number} {told = told} room counts gave prints =
    let new = printed number told.told.code told.told.number in
    let short = printed_short number told.told.code told.told.number in
    record {
      answers = line_is_answered f line memory output room counts gave prints;
      after = omega (arith, answer_is prints);
      fits = omega (arith, answer_is prints, short);
      beyond = beyond_written new f.put output (omega (arith, room, short)) prints;
    }

-- The whole lines of some bytes, answered up to a place. The output past what is printed is as it was.
pub record Underway (f₀ : Feed) (bytes memory₀ output₀ : List ℕ) (f : Feed) (at : ℕ) (memory output : List ℕ) : Type 0 where
  pub far : Cutting.Underway desk (fed f₀ memory₀ output₀) bytes at (fed f memory output)
  pub beyond : SameFrom f.put output₀ output

pub none_yet : (f : Feed) (bytes memory output : List ℕ) → Underway f bytes memory output f 0 memory output
none_yet f bytes memory output = record { far = Cutting.none_yet desk (fed f memory output) bytes; beyond = refl }

-- A turn: nothing stood printed before it.
pub turn_answers : (end : ℕ) (input : List ℕ) (f : Feed) (memory output : List ℕ) {o : Outcome (List ℕ) State}
    → o ≡ and_then (fed (unprinted f) memory output) (lines_answered (cut (take (end - 0) input)).lines)
    → o ≡ lines_answered (cut (take end input)).lines (state_of f memory)
turn_answers end input f memory output answers = let same : end - 0 ≡ end = omega arith in rw same at answers
