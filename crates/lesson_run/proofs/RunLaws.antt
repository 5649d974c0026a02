-- What is left of a lesson before a step and after it.
use Rattle.std.proofs.Common.{Result, Ok, Err, ◌≡◌, ℕ, suc, ◌+◌, ◌-◌, ◌<◌, ◌≤◌, eqb, ltb, leb, List, [], ◌∷◌, length, take, drop, refl, ap, ◌∙◌, add-one, arith}
use Rattle.std.proofs.Common.{length-drop, drop_of_length-le, take_all, drop-drop, ne_eqb}
use Rattle.arith.proofs.Cases.{by_test, by_le}
use Rattle.scan.specs.Bytes.{index_of}
use Rattle.desk_cutting.specs.Cutting.{cut, lines_of}
use Rattle.desk_cutting.proofs.CutLaws.{no_feed, at_feed}
use Rattle.desk_lines.specs.Printed.{line_feed}
use Rattle.desk_writer.specs.declared.DeskCall.{DeskCall}
use Rattle.desk_writer.specs.Writer.{written_line}
use Rattle.exercise_lines.specs.Repeats.{call_on, within64}
use Rattle.lesson_lines.specs.declared.Limits.{Limits}
use Rattle.std.specs.Result.{IfOk}
use Rattle.std.specs.List.{starts_with}
use Rattle.std.proofs.lemmas.Bool.Decides.{nat_tests}
use Rattle.lesson_lines.specs.declared.Wrong.{Wrong}
use Rattle.lesson_lines.specs.declared.words.Letter.{Letter}
use Rattle.lesson_lines.specs.declared.Meaning.{Meaning}
use Rattle.lesson_lines.specs.declared.Meaning.TheVariants as meaning
use Rattle.lesson_lines.specs.Written.{limits_bytes}
use Rattle.lesson_words.specs.declared.Kind.TheVariants as kind
use Rattle.lesson_lines.specs.Lesson.{taken, taken_letter, finished, taken_limits, call_of, village, settings, by_letter, words_mean, uncommented, word_from}
use Rattle.lesson_lines.specs.Lesson.{meaning_of, moment_in, clock_after, village_of, set_up_by}
use Rattle.lesson_lines.proofs.StepLaws.{holds_after}
use Rattle.lesson_writer.specs.Lines.{calls_from}
use Rattle.lesson_run.specs.declared.Progress.{Progress}
use Rattle.lesson_run.specs.declared.Step.{Step}
use Rattle.lesson_run.specs.Run.{all_written, written, falls_to, told, next_number, Output, and_then, output_of, calls_left, left_of, at_line, Good, line_in}
use Rattle.lesson_run.specs.Run.{notes_in, is_marked}
use Rattle.lesson_run.specs.Run.{one_place_on, CallPut, falls_note, calls_begun, CallsWithin, LineTaken}

-- A byte order mark, byte by byte.
pub mark_is_ahead : (bs : List ℕ) → starts_with eqb bs (239 ∷ 187 ∷ 191 ∷ []) ≡ is_marked bs
unfolding is_marked
mark_is_ahead [] = refl
mark_is_ahead (a ∷ []) = grind (arith, nat_tests)
mark_is_ahead (a ∷ b ∷ []) = grind (arith, nat_tests)
mark_is_ahead (a ∷ b ∷ c ∷ bs) = grind (arith, nat_tests)

-- The calls of a line that is read are within 64 bits.
village_within : (from count spacing : ℕ) (c : DeskCall) → IfOk (village_of from count spacing c) CallsWithin
unfolding village_of
village_within from count spacing c = by_test (within64 spacing (count - 1) c) (λ t. rw t t) (λ t. rw t tt)

set_up_within : (from : ℕ) (l : Limits) → IfOk (set_up_by from l) CallsWithin
unfolding set_up_by
set_up_within from l = by_test (leb (length (limits_bytes l)) 100) (λ t. rw t tt) (λ t. rw t tt)

settings_within : (line : List ℕ) (s : Letter) → IfOk (settings line s) CallsWithin
unfolding settings
settings_within line s =
    holds_after CallsWithin (taken_limits line s.end) _ (λ l _.
    holds_after CallsWithin (finished line l.1) _ (λ over _. set_up_within s.from l.0))

village_line_within : (line : List ℕ) (clock : ℕ) (v : Letter) → IfOk (village line clock v) CallsWithin
unfolding village
village_line_within line clock v =
    holds_after CallsWithin (taken line kind.Count clock v.end) _ (λ count _.
    holds_after CallsWithin (taken line kind.Time clock count.1) _ (λ spacing _.
    holds_after CallsWithin (taken_letter line spacing.1) _ (λ l _.
    holds_after CallsWithin (call_of line clock l) _ (λ c _. village_within v.from count.0 spacing.0 c))))

letter_within : (line : List ℕ) (clock : ℕ) (l : Letter) → IfOk (by_letter line clock l) CallsWithin
unfolding by_letter
letter_within line clock l =
    by_test (eqb l.value 115)
    (λ t. rw t (settings_within line l))
    (λ t. by_test (eqb l.value 118)
    (λ u. rw (t, u) (village_line_within line clock l))
    (λ u. rw (t, u) (holds_after CallsWithin (call_of line clock l) (village_of l.from 1 0) (λ c _. village_within l.from 1 0 c))))

words_within : (clock : ℕ) (line : List ℕ) → IfOk (words_mean clock line) CallsWithin
unfolding words_mean
words_within clock line =
    by_test (eqb (word_from line 0) (length line))
    (λ t. rw t tt)
    (λ t. rw t (holds_after CallsWithin (taken_letter line 0) (by_letter line clock) (λ l _. letter_within line clock l)))

pub meaning_within : (clock : ℕ) (line : List ℕ) {m : Result Meaning Wrong} → m ≡ meaning_of clock line → IfOk m CallsWithin
meaning_within clock line is = rw is (words_within clock (uncommented line))

-- The first of some lines.
nothing_cut : lines_of [] ≡ []
unfolding lines_of cut
nothing_cut = refl

pub first_line : (bs : List ℕ) → 0 < length bs → lines_of bs ≡ take (index_of line_feed bs) bs ∷ lines_of (drop (suc (index_of line_feed bs)) bs)
unfolding lines_of
first_line [] some = absurd (omega arith)
first_line (b ∷ bs) some =
    by_le (length (b ∷ bs)) (index_of line_feed (b ∷ bs))
    (λ none.
    let whole : take (index_of line_feed (b ∷ bs)) (b ∷ bs) ≡ b ∷ bs = take_all (index_of line_feed (b ∷ bs)) (b ∷ bs) none in
    let past : drop (suc (index_of line_feed (b ∷ bs))) (b ∷ bs) ≡ [] = drop_of_length-le (b ∷ bs) {i = suc (index_of line_feed (b ∷ bs))} (omega arith) in
    rw (no_feed (b ∷ bs) none, whole, past, nothing_cut))
    (λ inside. rw (at_feed (b ∷ bs) inside))

-- Where no call is left.
module _ (text : List ℕ) (p : Progress) (none : p.count ≤ p.place) where
  no_calls : calls_left p ≡ []
  unfolding calls_from all_written
  no_calls = let zero_left : p.count - p.place ≡ 0 = omega arith in rw zero_left

  left_is_lines : left_of text p ≡ output_of p.number p.clock (lines_of (drop p.at text))
  unfolding left_of
  left_is_lines = rw no_calls

  pub nothing_left : length text ≤ p.at → left_of text p ≡ record { lines = []; notes = [] }
  unfolding output_of
  nothing_left past = left_is_lines ∙ rw (drop_of_length-le text past, nothing_cut)

  pub line_left : p.at < length text → {stop : ℕ} → stop ≡ p.at + index_of line_feed (drop p.at text)
      → let m = meaning_of p.clock (take (stop - p.at) (drop p.at text)) in left_of text p
      ≡ and_then (written m) (told (next_number p.number) p.clock m)
      (output_of (next_number p.number) (clock_after p.clock m) (lines_of (drop (stop + 1) text)))
  unfolding output_of
  line_left inside {stop} is =
      let bs = drop p.at text in
      let some : 0 < length bs = omega (arith, length-drop p.at text) in
      let size : stop - p.at ≡ index_of line_feed bs = omega arith in
      let place : p.at + suc (index_of line_feed bs) ≡ stop + 1 = omega arith in
      let next : drop (suc (index_of line_feed bs)) bs ≡ drop (stop + 1) text =
      drop-drop (suc (index_of line_feed bs)) p.at text ∙ ap (λ (k : ℕ). drop k text) place in
      left_is_lines ∙ rw (first_line bs some, next, size)

-- A call that was put.
module _ (text : List ℕ) (p : Progress) (more : p.place < p.count) where
  one_call_on : calls_left p ≡ written_line (call_on p.spacing p.place p.call) ∷ calls_left (one_place_on p)
  unfolding calls_from all_written
  one_call_on = let one_less : p.count - p.place ≡ suc (p.count - (p.place + 1)) = omega arith in rw (one_less, add-one)

  pub call_splits : {r : Step} {out : List ℕ} → CallPut p r out
      → left_of text p ≡ and_then (line_in r.size out) (notes_in r.note) (left_of text r.progress)
  unfolding left_of
  call_splits {r} put = rw (one_call_on, put.moves, put.quiet, ne_eqb r.size 0 (λ e. omega (arith, put.some)), put.puts)

-- A line that was taken.
module _ (text : List ℕ) (at number clock : ℕ) where
  abbrev after : Result Meaning Wrong → Output
  after m = and_then (written m) (told number clock m) (output_of number (clock_after clock m) (lines_of (drop at text)))

  pub at_line_left : left_of text (at_line at number clock) ≡ output_of number clock (lines_of (drop at text))
  at_line_left = left_is_lines text (at_line at number clock) (omega arith)

  falls_splits : (moment : ℕ) → falls_to number clock moment ≡ notes_in (falls_note number moment clock)
  falls_splits moment = by_test (ltb moment clock) (λ t. rw t) (λ t. rw t)

  calls_left_lem : (c : DeskCall) (count spacing : ℕ) → left_of text (calls_begun c count spacing at number clock).progress
      ≡ and_then (all_written (calls_from c spacing 0 count)) []
      (output_of number (clock_after clock (Ok (meaning.Calls c count spacing))) (lines_of (drop at text)))
  unfolding left_of
  calls_left_lem c count spacing = let all : count - 0 ≡ count = omega arith in rw all

  pub taken_splits : (m : Result Meaning Wrong) (r : Step) (out : List ℕ) → LineTaken m at number clock r out
      → after m ≡ and_then (line_in r.size out) (notes_in r.note) (left_of text r.progress)
  taken_splits (Ok meaning.Blank) r out is = rw (is, at_line_left)
  taken_splits (Ok (meaning.SetUp l)) r out put =
      rw (put.moves, put.quiet, ne_eqb r.size 0 (λ e. omega (arith, put.some)), put.puts, at_line_left)
  taken_splits (Ok (meaning.Calls c count spacing)) r out is = rw (is, calls_left_lem c count spacing, falls_splits (moment_in clock c))
  taken_splits (Err w) r out is = rw (is, at_line_left)

  pub taken_good : (m : Result Meaning Wrong) (r : Step) (out : List ℕ) → IfOk m CallsWithin → LineTaken m at number clock r out → Good r.progress
  taken_good (Ok meaning.Blank) r out within is = rw is (λ more. absurd (omega arith))
  taken_good (Ok (meaning.SetUp l)) r out within put = rw put.moves (λ more. absurd (omega arith))
  taken_good (Ok (meaning.Calls c count spacing)) r out within is = rw is (λ more. within)
  taken_good (Err w) r out within is = rw is (λ more. absurd (omega arith))

  pub taken_short : (m : Result Meaning Wrong) (r : Step) (out : List ℕ) → LineTaken m at number clock r out → r.size ≤ length out
  taken_short (Ok meaning.Blank) r out is = rw is (omega arith)
  taken_short (Ok (meaning.SetUp l)) r out put = put.short
  taken_short (Ok (meaning.Calls c count spacing)) r out is = rw is (omega arith)
  taken_short (Err w) r out is = rw is (omega arith)

pub call_good : (text : List ℕ) (p : Progress) → p.place < p.count → Good p → {r : Step} {out : List ℕ} → CallPut p r out → Good r.progress
call_good text p more good put = rw put.moves (λ next. good more)
