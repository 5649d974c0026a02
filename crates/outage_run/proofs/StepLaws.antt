-- Each step of the code is a step of the definition: line 1, a row kept, a line past the last row, and the run of the rows.
use Rattle.std.proofs.Common.{◌≡◌, ℕ, ◌+◌, ◌-◌, ◌*◌, ◌/◌, ◌≤◌, List, [], ◌∷◌, ◌++◌, length, take, drop, sym, refl, ap, ◌∙◌, append_assoc, append-nil, arith}
use Rattle.std.proofs.Common.{length-append, length-take-le, take_at, eq-eqb, ne_eqb}
use borrow.Rule.Slice.PartMut.{put_mid}
use Rattle.rows.specs.Outcome.{Outcome, outcome}
use Rattle.rows.specs.Rows.{rows}
use Rattle.rows.proofs.OutcomeLaws.{answer_is, after_is}
use Rattle.settings.specs.declared.Settings.{Settings}
use Rattle.desk_lines.specs.declared.Line.{Line}
use Rattle.desk_lines.specs.Fields.{space}
use Rattle.desk_lines.specs.Lines.{line_of}
use Rattle.desk_lines.specs.Printed.{line_feed, printed_field, printed, written_over}
use Rattle.desk_lines.proofs.PrintLaws.{field_short}
use Rattle.desk_answers.specs.declared.Served.{Served}
use Rattle.desk_answers.specs.declared.Stage.{Stage}
use Rattle.desk_answers.specs.declared.Stage.TheVariants.{First, Open, Ended}
use Rattle.desk_answers.specs.Desk.{store_size, in_store, opened}
use Rattle.desk_answers.proofs.DeskLaws.{lent_answered}
use Rattle.desk_cutting.specs.Answering.{and_then}
use Rattle.desk_cutting.proofs.WrittenLaws.{written_on, beyond_written, same_further}
use Rattle.outage_rows.specs.declared.Row.{Row}
use Rattle.outage_rows.specs.Model.{State, outage, rows_run}
use Rattle.outage_rows.specs.Layout.{row_width, rows_in, all_rows, state_of}
use Rattle.outage_rows.specs.Printed.{longest_row, printed_row, printed_rows}
use Rattle.outage_rows.proofs.LayoutLaws.{rows_count, lent_rows}
use Rattle.outage_rows.proofs.PrintLaws.{row_short, rows_short}
use Rattle.outage_rows.proofs.RunLaws.{outage_on_values, run_keeps_count}
use Rattle.outage_run.specs.declared.Feed.{Feed}
use Rattle.outage_run.specs.Feeding.{village_of, fed, bytes_for, run_in, CameUp, Took, TookAside}
use Rattle.outage_run.specs.Run.{Village, malformed_row, row_of_line, next_number, comes_up, first_taken, row_taken, past_taken, further_taken, line_taken}
use Rattle.outage_run.specs.Run.{finished}

-- The rows were run on the words of the store, which were lent.
pub run_lent : (s : Settings) (rs memory rs' ys : List ℕ) {size : ℕ} → size ≡ store_size s (length memory)
    → state_of rs' ys ≡ outage s (state_of rs (take (size - 0) memory))
    → outcome (all_rows rs') (put_mid 0 (size - 0) memory ys) ≡ in_store s (rows_run s (all_rows rs)) memory
run_lent s rs memory rs' ys {size} is gave =
    lent_answered s memory ys (rows_run s (all_rows rs)) is (outage_on_values s (all_rows rs) _ (take (size - 0) memory) {v = state_of rs' ys} gave)

-- The rows that come up have no more bytes than there is room for.
came_short : (s : Settings) (count : ℕ) (rs memory : List ℕ) → length (printed_rows (run_in s count rs memory).answer) ≤ longest_row * count
came_short s count rs memory =
    let rows_in = rows_in count rs in
    let lent = take (store_size s (length memory)) memory in
    omega (arith, rows_short (run_in s count rs memory).answer, run_keeps_count s rows_in lent, rows_count count rs)

-- The words of the first rows were lent, and came back. They have as many rows.
lent_back : (count : ℕ) (rs ys : List ℕ) → row_width * count ≤ length rs → length ys ≡ length (take (row_width * count - 0) rs)
    → take (row_width * count - 0) (put_mid 0 (row_width * count - 0) rs ys) ≡ ys
lent_back count rs ys room long =
    let width : length ys ≡ row_width * count - 0 = long ∙ length-take-le (row_width * count - 0) rs (omega (arith, room)) in
    take_at ys (drop (row_width * count - 0) rs) (row_width * count - 0) width

pub room_for_rows : (count at : ℕ) (rs ys : List ℕ) {k : ℕ} → row_width * count ≤ length rs → length ys ≡ length (take (row_width * count - 0) rs)
    → at + longest_row * count ≤ k
    → at + longest_row * (length (take (row_width * count - 0) (put_mid 0 (row_width * count - 0) rs ys)) / row_width) ≤ k
room_for_rows count at rs ys room long fits =
    let width : length ys ≡ row_width * count = long ∙ length-take-le (row_width * count - 0) rs (omega (arith, room)) ∙ omega arith in
    let same : length ys / row_width ≡ count = omega (arith, width) in
    rw (lent_back count rs ys room long, same) fits

-- Their rows were run, and then printed.
pub rows_came : (s : Settings) (count at : ℕ) (rs memory output ys : List ℕ) {r : ℕ} {memory' output' : List ℕ} → row_width * count ≤ length rs
    → length ys ≡ length (take (row_width * count - 0) rs)
    → outcome (all_rows ys) memory' ≡ in_store s (rows_run s (all_rows (take (row_width * count - 0) rs))) memory
    → outcome r output' ≡ written_over (printed_rows (all_rows (take (row_width * count - 0) (put_mid 0 (row_width * count - 0) rs ys)))) at output
    → CameUp s count at rs memory output r memory' output'
rows_came s count at rs memory output ys room long gave prints =
    let whole : row_width * count - 0 ≡ row_width * count = omega arith in
    let back = lent_back count rs ys room long in
    let first : all_rows (take (row_width * count - 0) rs) ≡ rows_in count rs = ap (λ (k : ℕ). all_rows (take k rs)) whole ∙ lent_rows count rs room in
    let ran = rw first at gave in
    record {
      leaves = after_is ran;
      prints = prints ∙ ap (λ (l : List ℕ). written_over (printed_rows (all_rows l)) at output) back
          ∙ ap (λ (rows : List Row). written_over (printed_rows rows) at output) (answer_is ran);
    }

-- A step as another one that does the same.
pub took_as : {lines : ℕ} {step : Village → Outcome (List ℕ) Village} (step' : Village → Outcome (List ℕ) Village) {f : Feed} {rs memory output : List ℕ}
    {r : Feed}
    {rs' memory' output' : List ℕ} → step (village_of f rs memory) ≡ step' (village_of f rs memory) → Took lines step f rs memory output r rs' memory' output'
    → Took lines step' f rs memory output r rs' memory' output'
took_as step' {f} {output = output} same took = record {
  answers = took.answers ∙ ap (λ (o : Outcome (List ℕ) Village). outcome (take f.put output ++ o.answer) o.after) same;
  after = took.after;
  rows = took.rows;
  fits = took.fits;
  beyond = took.beyond;
}

-- A printed line of three numbers is no longer than a row.
line_short : (number code wait : ℕ) → length (printed number code wait) ≤ longest_row
line_short number code wait =
    let second = printed_field code space ++ printed_field wait line_feed in
    omega (
      arith,
      field_short number space,
      field_short code space,
      field_short wait line_feed,
      length-append (printed_field number space) second,
      length-append (printed_field code space) (printed_field wait line_feed),
    )

-- Line 1 was served, and its answer printed.
pub first_took : (f : Feed) (number : ℕ) (line : Line) (memory output : List ℕ) {put' : ℕ} {told : Served} {memory' output' : List ℕ}
    → bytes_for 1 f ≤ length output → outcome told memory' ≡ opened line memory
    → outcome put' output' ≡ written_over (printed number told.told.code told.told.number) f.put output
    → TookAside 1 (first_taken number line) f memory output
    (record { stage = told.stage; number = number; count = f.count; room = f.room; put = put' }) memory' output'
first_took f number line memory output {told = told} room gave prints rs =
    let new = printed number told.told.code told.told.number in
    let short = line_short number told.told.code told.told.number in
    record {
      answers = rw (written_on new f.put output (omega (arith, room, short)) prints, answer_is gave, after_is gave);
      after = omega (arith, answer_is prints);
      rows = omega arith;
      fits = omega (arith, answer_is prints, short);
      beyond = beyond_written new f.put output (omega (arith, room, short)) prints;
    }

-- A further line was kept as a row.
pub row_took : (f : Feed) (number : ℕ) (line : Line) (rs memory output : List ℕ) {row : Row} {rs' : List ℕ} → (f.room ≡ 0 → ⊥) → row ≡ row_of_line line
    → rows_in (f.count + 1) rs' ≡ rows_in f.count rs ++ (row ∷ [])
    → Took 1 (row_taken number line) f rs memory output
    (record { stage = f.stage; number = number; count = f.count + 1; room = f.room - 1; put = f.put }) rs' memory output
row_took f number line rs memory output some is kept = record {
  answers = rw (kept, is, append-nil (take f.put output));
  after = omega arith;
  rows = omega (arith, some);
  fits = omega (arith, some);
  beyond = refl;
}

-- The rows that wait were run and printed.
module _ (s : Settings) (f : Feed) (rs memory output : List ℕ) (room : f.put + longest_row * f.count ≤ length output) {own : ℕ} {memory' between : List ℕ}
    (came : CameUp s f.count f.put rs memory output own memory' between) where
  abbrev row_bytes : List ℕ
  row_bytes = printed_rows (run_in s f.count rs memory).answer

  rows_fit : f.put + length row_bytes ≤ length output
  rows_fit = omega (arith, room, came_short s f.count rs memory)

  rows_printed : take own between ≡ take f.put output ++ row_bytes
  rows_printed = written_on row_bytes f.put output rows_fit came.prints

  own_place : own ≡ f.put + length row_bytes
  own_place = answer_is came.prints

  pub came_took : (rs' : List ℕ)
      → Took 0 (comes_up s) f rs memory output (record { stage = f.stage; number = f.number; count = 0; room = f.room; put = own }) rs' memory' between
  unfolding comes_up rows_in rows
  came_took rs' = record {
    answers = rw (rows_printed, came.leaves);
    after = omega (arith, own_place);
    rows = omega arith;
    fits = omega (arith, own_place, came_short s f.count rs memory);
    beyond = beyond_written row_bytes f.put output rows_fit came.prints;
  }

-- And then the line for which there is no row was printed.
pub past_took : (s : Settings) (f : Feed) (rs memory output : List ℕ) {ran : Feed} {rs' memory' between : List ℕ}
    → Took 0 (comes_up s) f rs memory output ran rs' memory' between → bytes_for 1 f ≤ length output → length between ≡ length output
    → (number : ℕ) {put' : ℕ} {output' : List ℕ} → outcome put' output' ≡ written_over (printed_row number malformed_row) ran.put between
    → Took 1 (past_taken s number) f rs memory output
    (record { stage = ran.stage; number = number; count = ran.count; room = ran.room; put = put' }) rs' memory' output'
unfolding comes_up
past_took s f rs memory output {ran} {rs'} {memory'} {between} took wide same number {put'} {output'} prints =
    let new = printed_row number malformed_row in
    let short = row_short number malformed_row in
    let fit : ran.put + length new ≤ length between = omega (arith, took.fits, short, wide, same) in
    let v = village_of f rs memory in
    let here : take put' output' ≡ take f.put output ++ ((comes_up s v).answer ++ new) =
    written_on new ran.put between fit prints ∙ ap (λ (l : List ℕ). l ++ new) (answer_is took.answers)
    ∙ append_assoc (take f.put output) (comes_up s v).answer new in
    let stands : village_of ran rs' memory' ≡ (comes_up s v).after = after_is took.answers in
    record {
      answers = λ j. outcome (here j) (record {
        stage = (stands j).stage;
        number = number;
        room = (stands j).room;
        rows = (stands j).rows;
        memory = (stands j).memory;
      });
      after = omega (arith, took.after, answer_is prints);
      rows = took.rows;
      fits = omega (arith, took.fits, answer_is prints, short);
      beyond = same_further ran.put put' output between output' took.beyond (omega (arith, answer_is prints))
          (beyond_written new ran.put between fit prints);
    }

-- Which step a line is.
module _ (s : Settings) (number : ℕ) (line : Line) (v : Village) where
  pub past_is_further : v.room ≡ 0 → past_taken s number v ≡ further_taken s number line v
  past_is_further none = rw (eq-eqb v.room 0 none)

  pub row_is_further : (v.room ≡ 0 → ⊥) → row_taken number line v ≡ further_taken s number line v
  row_is_further some = rw (ne_eqb v.room 0 some)

module _ (line : List ℕ) (v : Village) where
  pub first_is_line : v.stage ≡ First → first_taken (next_number v.number) (line_of line) v ≡ line_taken line v
  unfolding line_taken
  first_is_line is = rw is

  pub further_is_line : (s : Settings) → v.stage ≡ Open s → further_taken s (next_number v.number) (line_of line) v ≡ line_taken line v
  unfolding line_taken
  further_is_line s is = rw is

-- No line is taken once the run has ended; and where it has not begun, or has ended, no row waits at the end of the input.
pub nothing_took : (lines : ℕ) (step : Village → Outcome (List ℕ) Village) (f : Feed) (rs memory output : List ℕ)
    → step (village_of f rs memory) ≡ outcome [] (village_of f rs memory) → Took lines step f rs memory output f rs memory output
nothing_took lines step f rs memory output none = record {
  answers = rw (none, append-nil (take f.put output));
  after = omega arith;
  rows = omega arith;
  fits = omega arith;
  beyond = refl;
}

pub ended_takes_none : (line : List ℕ) (v : Village) (code : ℕ) → v.stage ≡ Ended code → line_taken line v ≡ outcome [] v
unfolding line_taken
ended_takes_none line v code is = rw is

pub open_comes_up : (s : Settings) (v : Village) → v.stage ≡ Open s → comes_up s v ≡ finished v
unfolding finished
open_comes_up s v is = rw is

pub first_finishes : (v : Village) → v.stage ≡ First → finished v ≡ outcome [] v
unfolding finished
first_finishes v is = rw is

pub ended_finishes : (v : Village) (code : ℕ) → v.stage ≡ Ended code → finished v ≡ outcome [] v
unfolding finished
ended_finishes v code is = rw is
