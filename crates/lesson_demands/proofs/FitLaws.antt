-- What a line means is within the widths of the desk's lines, and a village has at least one call.
use Rattle.std.proofs.Common.{Ok}
use Rattle.std.specs.Result.{IfOk}
use Prim.Native.Nat.{ℕ, ◌+◌, ◌*◌, ◌-◌, ◌≤◌, ◌<◌}
use native.Mathlib.Omega.{arith}
use native.Mathlib.Nat.{mul-le-mul_right}
use mathlib.Core.Path.{◌≡◌, refl, sym}
use mathlib.Core.Bool.{Bool, true, false, cond, true≢false}
use mathlib.Core.List.{List}
use lib.Dec.{eqb, leb}
use lib.ListN.{length}
use borrow.Author.Tests.{leb-true}
use Rattle.arith.proofs.Cases.{by_test}
use Rattle.desk_lines.specs.declared.Request.{Request}
use Rattle.desk_lines.specs.Lines.{most64, most32, most_rule, longest_line}
use Rattle.desk_writer.specs.declared.DeskCall.{DeskCall}
use Rattle.desk_writer.specs.declared.DeskCall.TheVariants.{Try, Peek, Reserve, Refund, Remove}
use Rattle.desk_writer.specs.Writer.{RequestFits, Fits}
use Rattle.exercise_lines.specs.Repeats.{request_on, call_on, request_within, within64}
use Rattle.lesson_words.specs.declared.Kind.TheVariants as kind
use Rattle.lesson_lines.specs.declared.words.Letter.{Letter}
use Rattle.lesson_lines.specs.declared.Limits.{Limits}
use Rattle.lesson_lines.specs.declared.Meaning.{Meaning}
use Rattle.lesson_lines.specs.declared.Meaning.TheVariants as meaning
use Rattle.lesson_lines.specs.Written.{limits_bytes}
use Rattle.lesson_lines.specs.Lesson.{taken, taken_at, taken_request, taken_letter, taken_idle, as_idle, idle_at, dash_at, finished, try_of, peek_of}
use Rattle.lesson_lines.specs.Lesson.{reserve_of}
use Rattle.lesson_lines.specs.Lesson.{refund_of, remove_of, call_of, village_of, village, taken_limits, set_up_by, settings, by_letter}
use Rattle.lesson_lines.specs.Lesson.{words_mean, uncommented, meaning_of, word_from, word_end}
use Rattle.lesson_lines.proofs.ReadingLaws.{number_within}
use Rattle.lesson_lines.proofs.StepLaws.{holds_after}
use Rattle.lesson_writer.specs.Lines.{LimitsFit, IdleFits}
use Rattle.lesson_writer.proofs.ReadBackLaws.{MeaningFits}
use Rattle.lesson_demands.proofs.ValueBounds.{at_read, number_read, time_fits64, count_is_one_at_least}

-- The cost of a call has at most 32 bits, and its longest wait 64. The other numbers are tested for the whole village.
abbrev CostFits : DeskCall → Type 0
CostFits (Try q) = q.cost ≤ most32
CostFits (Peek q) = q.cost ≤ most32
CostFits (Reserve q w) = (q.cost ≤ most32) × (w.0 ≤ most64)
CostFits (Refund key cost) = cost ≤ most32
CostFits (Remove key) = Unit {0}

module _ (line : List ℕ) (clock : ℕ) where
  time_fits : (at : ℕ) {r : ℕ × ℕ} → taken line kind.Time clock at ≡ Ok r → r.0 ≤ most64
  time_fits at = number_read (λ n. n ≤ most64) line kind.Time clock time_fits64 at

  request_fits_32 : (at : ℕ) → IfOk (taken_request line clock at) (λ q. q.0.cost ≤ most32)
  unfolding taken_request
  request_fits_32 at =
      holds_after _ (taken line kind.Moment clock at) _ (λ moment _.
      holds_after _ (taken line kind.Modem clock moment.1) _ (λ modem _.
      holds_after _ (taken line (kind.Number most32) clock modem.1) _ (λ cost is. number_within most32 line clock modem.1 is)))

  try_fits : (at : ℕ) → IfOk (try_of line clock at) CostFits
  unfolding try_of
  try_fits at =
      holds_after CostFits (taken_request line clock at) _ (λ q is.
      holds_after CostFits (finished line q.1) _ (λ over _. rw is at (request_fits_32 at)))

  peek_fits : (at : ℕ) → IfOk (peek_of line clock at) CostFits
  unfolding peek_of
  peek_fits at =
      holds_after CostFits (taken_request line clock at) _ (λ q is.
      holds_after CostFits (finished line q.1) _ (λ over _. rw is at (request_fits_32 at)))

  reserve_fits : (at : ℕ) → IfOk (reserve_of line clock at) CostFits
  unfolding reserve_of
  reserve_fits at =
      holds_after CostFits (taken_request line clock at) _ (λ q is.
      holds_after CostFits (taken line kind.Time clock q.1) _ (λ longest time.
      holds_after CostFits (finished line longest.1) _ (λ over _. (rw is at (request_fits_32 at), time_fits q.1 time))))

  refund_fits : (at : ℕ) → IfOk (refund_of line clock at) CostFits
  unfolding refund_of
  refund_fits at =
      holds_after CostFits (taken line kind.Modem clock at) _ (λ modem _.
      holds_after CostFits (taken line (kind.Number most32) clock modem.1) _ (λ cost is.
      holds_after CostFits (finished line cost.1) _ (λ over _. number_within most32 line clock modem.1 is)))

  remove_fits : (at : ℕ) → IfOk (remove_of line clock at) CostFits
  unfolding remove_of
  remove_fits at =
      holds_after CostFits (taken line kind.Modem clock at) _ (λ modem _.
      holds_after CostFits (finished line modem.1) _ (λ over _. tt))

  call_fits : (l : Letter) → IfOk (call_of line clock l) CostFits
  unfolding call_of
  call_fits l =
      by_test (eqb l.value 97)
      (λ t. rw t (try_fits l.end))
      (λ t. by_test (eqb l.value 112)
      (λ u. rw (t, u) (peek_fits l.end))
      (λ u. by_test (eqb l.value 114)
      (λ v. rw (t, u, v) (reserve_fits l.end))
      (λ v. by_test (eqb l.value 102)
      (λ w. rw (t, u, v, w) (refund_fits l.end))
      (λ w. by_test (eqb l.value 100)
      (λ x. rw (t, u, v, w, x) (remove_fits l.end))
      (λ x. rw (t, u, v, w, x) tt)))))

-- The calls of a village are within their widths where the last one has at most 64 bits.
both_hold : (a b : Bool) → cond a b false ≡ true → (a ≡ true) × (b ≡ true)
both_hold true b both = (refl, both)
both_hold false b both = absurd (true≢false (sym both))

module _ (spacing count i : ℕ) (inside : i < count) where
  earlier : i * spacing ≤ (count - 1) * spacing
  earlier = mul-le-mul_right spacing (omega arith)

  request_fits : (q : Request) → request_within spacing (count - 1) q ≡ true → q.cost ≤ most32 → RequestFits (request_on spacing i q)
  unfolding request_within
  request_fits q within cost =
      let both = both_hold (leb (q.at.0 + (count - 1) * spacing) most64) (leb (q.key + (count - 1)) most64) within in (
        omega (arith, earlier, leb-true (q.at.0 + (count - 1) * spacing) most64 both.0),
        (
          omega (arith, leb-true (q.key + (count - 1)) most64 both.1),
          cost,
        ),
      )

  village_call_fits : (c : DeskCall) → within64 spacing (count - 1) c ≡ true → CostFits c → Fits (call_on spacing i c)
  unfolding within64 call_on
  village_call_fits (Try q) within cost = request_fits q within cost
  village_call_fits (Peek q) within cost = request_fits q within cost
  village_call_fits (Reserve q w) within cost = (request_fits q within cost.0, cost.1)
  village_call_fits (Refund key n) within cost = (omega (arith, leb-true (key + (count - 1)) most64 within), cost)
  village_call_fits (Remove key) within cost = omega (arith, leb-true (key + (count - 1)) most64 within)

-- Of calls there is at least one.
abbrev pub SomeCalls : Meaning → Type 0
SomeCalls meaning.Blank = Unit {0}
SomeCalls (meaning.SetUp l) = Unit {0}
SomeCalls (meaning.Calls call count spacing) = 1 ≤ count

-- A meaning is within its widths, and is not of no calls.
pub record Sound (m : Meaning) : Type 0 where
  pub fits : MeaningFits m
  pub some : SomeCalls m

village_sound : (from count spacing : ℕ) (call : DeskCall) → CostFits call → 1 ≤ count → IfOk (village_of from count spacing call) Sound
unfolding village_of
village_sound from count spacing call cost some =
    by_test (within64 spacing (count - 1) call)
    (λ t. rw t (record { fits = λ i low inside. village_call_fits spacing count i (omega arith) call t cost; some = some }))
    (λ t. rw t tt)

-- The settings of a line.
module _ (line : List ℕ) where
  idle_at_fits : (from end : ℕ) → IfOk (idle_at line from end) (λ i. IdleFits i.0)
  unfolding idle_at
  idle_at_fits from end =
      by_test (dash_at line from end)
      (λ t. rw t tt)
      (λ t. rw t (holds_after (λ i. IdleFits i.0) (taken_at line kind.Time 0 from end) as_idle
      (λ time is. at_read (λ n. n ≤ most64) line kind.Time 0 time_fits64 from end is)))

  idle_fits_taken : (at : ℕ) → IfOk (taken_idle line at) (λ i. IdleFits i.0)
  idle_fits_taken at = idle_at_fits (word_from line at) (word_end line (word_from line at))

  limits_fit : (at : ℕ) → IfOk (taken_limits line at) (λ l. LimitsFit l.0)
  unfolding taken_limits
  limits_fit at =
      holds_after _ (taken line (kind.Number most32) 0 at) _ (λ amount a.
      holds_after _ (taken line kind.Time 0 amount.1) _ (λ period p.
      holds_after _ (taken line (kind.Number most32) 0 period.1) _ (λ burst b.
      holds_after _ (taken line (kind.Number most32) 0 burst.1) _ (λ initial i.
      holds_after _ (taken line (kind.Number most64) 0 initial.1) _ (λ modems m.
      holds_after _ (taken line (kind.Number most64) 0 modems.1) _ (λ shards s.
      holds_after _ (taken_idle line shards.1) _ (λ idle d.
      holds_after _ (taken line (kind.Number most_rule) 0 idle.1) _ (λ rule r. record {
        amount_fits = number_within most32 line 0 at a;
        period_fits = time_fits line 0 amount.1 p;
        burst_fits = number_within most32 line 0 period.1 b;
        initial_fits = number_within most32 line 0 burst.1 i;
        modems_fit = number_within most64 line 0 initial.1 m;
        shards_fit = number_within most64 line 0 modems.1 s;
        idle_fits_met = rw d at (idle_fits_taken shards.1);
        rule_fits = number_within most_rule line 0 idle.1 r;
      }))))))))

set_up_sound : (from : ℕ) (l : Limits) → LimitsFit l → IfOk (set_up_by from l) Sound
unfolding set_up_by
set_up_sound from l fits =
    by_test (leb (length (limits_bytes l)) longest_line)
    (λ t. rw t (record { fits = (fits, leb-true (length (limits_bytes l)) longest_line t); some = tt }))
    (λ t. rw t tt)

-- A line.
module _ (line : List ℕ) (clock : ℕ) where
  settings_sound : (s : Letter) → IfOk (settings line s) Sound
  unfolding settings
  settings_sound s =
      holds_after Sound (taken_limits line s.end) _ (λ l is.
      holds_after Sound (finished line l.1) _ (λ over _. set_up_sound s.from l.0 (rw is at (limits_fit line s.end))))

  village_line_sound : (v : Letter) → IfOk (village line clock v) Sound
  unfolding village
  village_line_sound v =
      holds_after Sound (taken line kind.Count clock v.end) _ (λ count some.
      holds_after Sound (taken line kind.Time clock count.1) _ (λ spacing _.
      holds_after Sound (taken_letter line spacing.1) _ (λ l _.
      holds_after Sound (call_of line clock l) _ (λ call is.
      village_sound v.from count.0 spacing.0 call (rw is at (call_fits line clock l))
      (number_read (λ n. 1 ≤ n) line kind.Count clock count_is_one_at_least v.end some)))))

  letter_sound : (l : Letter) → IfOk (by_letter line clock l) Sound
  unfolding by_letter
  letter_sound l =
      by_test (eqb l.value 115)
      (λ t. rw t (settings_sound l))
      (λ t. by_test (eqb l.value 118)
      (λ u. rw (t, u) (village_line_sound l))
      (λ u. rw (t, u) (holds_after Sound (call_of line clock l) (village_of l.from 1 0)
      (λ call is. village_sound l.from 1 0 call (rw is at (call_fits line clock l)) (omega arith)))))

  words_sound : IfOk (words_mean clock line) Sound
  unfolding words_mean
  words_sound =
      by_test (eqb (word_from line 0) (length line))
      (λ t. rw t (record { fits = tt; some = tt }))
      (λ t. rw t (holds_after Sound (taken_letter line 0) (by_letter line clock) (λ l _. letter_sound l)))

pub meaning_sound : (clock : ℕ) (line : List ℕ) → IfOk (meaning_of clock line) Sound
meaning_sound clock line = words_sound (uncommented line) clock
