-- The grammar of a lesson, on one page: from a line's bytes to what the line means, or to what is wrong with it and where.
--
--   line     = what comes before the first `#`, as words. Spaces, tabs and CRs separate words; letters may be of either case. No word: an empty line.
--   settings = s AMOUNT PERIOD BURST INITIAL MODEMS SHARDS IDLE WHEN-FULL
--   call     = a MOMENT MODEM COST  |  p MOMENT MODEM COST  |  r MOMENT MODEM COST MAX-WAIT  |  f MODEM COST  |  d MODEM
--   village  = v COUNT SPACING call
--   PERIOD, MAX-WAIT, SPACING are times, and so is IDLE, or `-` for none. Times and modems are words of `lesson_words`:
--   a time is 1500 (nanoseconds), 1.5us, 0.5s, 2min, 1h; a moment is a time, or +0.5s for that much after the clock;
--   a modem is a number or an address as 00:1a:2b:3c:4d:5e. The other words are numbers.
--
-- The clock is the moment of the last call that was written before (`clock_after`), and 0 at first. A line that is wrong does not move it.
use Rattle.std.specs.Prelude.{ℕ, ◌+◌, ◌-◌, ◌≤◌, ◌<◌, Bool, false, cond, List, eqb, leb, length, take, drop, get_or, Option, Some, None, Result, Ok, Err}
use Rattle.rows.specs.Segments.{segment}
use Rattle.scan.specs.Bytes.{index_of}
use Rattle.units.specs.Units.{nanos_of}
use Rattle.desk_lines.specs.Lines.{most64, most32, most_rule, longest_line}
use Rattle.desk_lines.specs.declared.Request.{Request}
use Rattle.desk_writer.specs.declared.DeskCall.{DeskCall}
use Rattle.desk_writer.specs.declared.DeskCall.TheVariants.{Try, Peek, Reserve, Refund, Remove}
use Rattle.exercise_lines.specs.Repeats.{call_on, within64}
use Rattle.lesson_words.specs.Words.{blanks_ahead, word_size, small}
use Rattle.lesson_words.specs.Values.{value_of}
use Rattle.lesson_words.specs.declared.Kind.{Kind}
use Rattle.lesson_words.specs.declared.Kind.TheVariants as kind
use Rattle.lesson_words.specs.declared.Fault.{Fault}
use Rattle.lesson_words.specs.declared.Fault.TheVariants as fault
use Rattle.lesson_words.specs.Steps.{◌>>=◌}
use Rattle.lesson_lines.specs.declared.Wrong.{Wrong}
use Rattle.lesson_lines.specs.declared.words.Letter.{Letter}
use Rattle.lesson_lines.specs.declared.Limits.{Limits}
use Rattle.lesson_lines.specs.declared.Meaning.{Meaning}
use Rattle.lesson_lines.specs.declared.Meaning.TheVariants as meaning
use Rattle.lesson_lines.specs.Written.{limits_bytes}

-- Where the next word begins, and where it ends.
abbrev pub word_from : List ℕ → ℕ → ℕ
word_from line at = at + blanks_ahead (drop at line)

abbrev pub word_end : List ℕ → ℕ → ℕ
word_end line from = from + word_size (drop from line)

-- A word is between two places of a line; between equal places, which may be past its end, there is none.
abbrev pub Between : ℕ → ℕ → ℕ → Type 0
Between from end size = (from ≤ end) × (from < end → end ≤ size)

-- What is wrong with a line: the word that begins at a place.
abbrev pub wrong_at : {A : Type 0} → ℕ → Fault → Result A Wrong
wrong_at at f = Err (record { at = at; fault = f })

-- A word between two places as what it has to be, and the place after it.
abbrev pub placed : ℕ → ℕ → Result ℕ Fault → Result (ℕ × ℕ) Wrong
placed from end (Ok n) = Ok (n, end)
placed from end (Err f) = wrong_at from f

unfoldable pub taken_at : List ℕ → Kind → ℕ → ℕ → ℕ → Result (ℕ × ℕ) Wrong
taken_at line k clock from end = cond (eqb from end) (wrong_at from fault.Missing) (placed from end (value_of k clock (segment from (end - from) line)))

-- The next word from a place on, as what it has to be, and the place after it.
abbrev pub taken : List ℕ → Kind → ℕ → ℕ → Result (ℕ × ℕ) Wrong
taken line k clock at = taken_at line k clock (word_from line at) (word_end line (word_from line at))

-- The next word as a letter, which is one byte.
unfoldable pub letter_at : List ℕ → ℕ → ℕ → Result Letter Wrong
letter_at line from end =
    cond (eqb from end) (wrong_at from fault.Missing)
    (cond (eqb (end - from) 1) (Ok (record { value = small (get_or line from 0); from = from; end = end })) (wrong_at from fault.Letter))

abbrev pub taken_letter : List ℕ → ℕ → Result Letter Wrong
taken_letter line at = letter_at line (word_from line at) (word_end line (word_from line at))

-- The next word as an idle time: `-` (45) for none, else a time.
unfoldable pub dash_at : List ℕ → ℕ → ℕ → Bool
dash_at line from end = cond (eqb (end - from) 1) (eqb (get_or line from 0) 45) false

abbrev pub as_idle : ℕ × ℕ → Result (Option ℕ × ℕ) Wrong
as_idle time = Ok (Some time.0, time.1)

unfoldable pub idle_at : List ℕ → ℕ → ℕ → Result (Option ℕ × ℕ) Wrong
idle_at line from end = cond (dash_at line from end) (Ok (None, end)) (taken_at line kind.Time 0 from end >>= as_idle)

abbrev pub taken_idle : List ℕ → ℕ → Result (Option ℕ × ℕ) Wrong
taken_idle line at = idle_at line (word_from line at) (word_end line (word_from line at))

-- No word may be left.
unfoldable pub finished : List ℕ → ℕ → Result (Unit {0}) Wrong
finished line at = cond (eqb (word_from line at) (word_end line (word_from line at))) (Ok tt) (wrong_at (word_from line at) fault.Extra)

-- A call: a letter, and its words.
unfoldable pub taken_request : List ℕ → ℕ → ℕ → Result (Request × ℕ) Wrong
taken_request line clock at = do
  moment ← taken line kind.Moment clock at
  modem ← taken line kind.Modem clock moment.1
  cost ← taken line (kind.Number most32) clock modem.1
  Ok (record { at = nanos_of moment.0; key = modem.0; cost = cost.0 }, cost.1)

unfoldable pub try_of : List ℕ → ℕ → ℕ → Result DeskCall Wrong
try_of line clock at = do
  q ← taken_request line clock at
  over ← finished line q.1
  Ok (Try q.0)

unfoldable pub peek_of : List ℕ → ℕ → ℕ → Result DeskCall Wrong
peek_of line clock at = do
  q ← taken_request line clock at
  over ← finished line q.1
  Ok (Peek q.0)

unfoldable pub reserve_of : List ℕ → ℕ → ℕ → Result DeskCall Wrong
reserve_of line clock at = do
  q ← taken_request line clock at
  longest ← taken line kind.Time clock q.1
  over ← finished line longest.1
  Ok (Reserve q.0 (nanos_of longest.0))

unfoldable pub refund_of : List ℕ → ℕ → ℕ → Result DeskCall Wrong
refund_of line clock at = do
  modem ← taken line kind.Modem clock at
  cost ← taken line (kind.Number most32) clock modem.1
  over ← finished line cost.1
  Ok (Refund modem.0 cost.0)

unfoldable pub remove_of : List ℕ → ℕ → ℕ → Result DeskCall Wrong
remove_of line clock at = do
  modem ← taken line kind.Modem clock at
  over ← finished line modem.1
  Ok (Remove modem.0)

-- By the letters `a`, `p`, `r`, `f`, `d`.
unfoldable pub call_of : List ℕ → ℕ → Letter → Result DeskCall Wrong
call_of line clock l =
    cond (eqb l.value 97) (try_of line clock l.end)
    (cond (eqb l.value 112) (peek_of line clock l.end)
    (cond (eqb l.value 114) (reserve_of line clock l.end)
    (cond (eqb l.value 102) (refund_of line clock l.end)
    (cond (eqb l.value 100) (remove_of line clock l.end)
    (wrong_at l.from fault.Letter)))))

-- A village: COUNT calls, for one modem after another, SPACING apart. The last one has to have numbers of at most 64 bits. One call is a village of one.
unfoldable pub village_of : ℕ → ℕ → ℕ → DeskCall → Result Meaning Wrong
village_of from count spacing call = cond (within64 spacing (count - 1) call) (Ok (meaning.Calls call count spacing)) (wrong_at from fault.Far)

unfoldable pub village : List ℕ → ℕ → Letter → Result Meaning Wrong
village line clock v = do
  count ← taken line kind.Count clock v.end
  spacing ← taken line kind.Time clock count.1
  l ← taken_letter line spacing.1
  call ← call_of line clock l
  village_of v.from count.0 spacing.0 call

-- The settings. Their line may not be longer than the desk reads.
unfoldable pub taken_limits : List ℕ → ℕ → Result (Limits × ℕ) Wrong
taken_limits line at = do
  amount ← taken line (kind.Number most32) 0 at
  period ← taken line kind.Time 0 amount.1
  burst ← taken line (kind.Number most32) 0 period.1
  initial ← taken line (kind.Number most32) 0 burst.1
  modems ← taken line (kind.Number most64) 0 initial.1
  shards ← taken line (kind.Number most64) 0 modems.1
  idle ← taken_idle line shards.1
  rule ← taken line (kind.Number most_rule) 0 idle.1
  Ok (
    record {
      amount = amount.0;
      period = period.0;
      burst = burst.0;
      initial = initial.0;
      modems = modems.0;
      shards = shards.0;
      idle = idle.0;
      when_full = rule.0;
    },
    rule.1,
  )

unfoldable pub set_up_by : ℕ → Limits → Result Meaning Wrong
set_up_by from l = cond (leb (length (limits_bytes l)) longest_line) (Ok (meaning.SetUp l)) (wrong_at from fault.Wide)

unfoldable pub settings : List ℕ → Letter → Result Meaning Wrong
settings line s = do
  l ← taken_limits line s.end
  over ← finished line l.1
  set_up_by s.from l.0

-- By the letter: `s` (115), `v` (118), else a call's.
unfoldable pub by_letter : List ℕ → ℕ → Letter → Result Meaning Wrong
by_letter line clock l =
    cond (eqb l.value 115) (settings line l)
    (cond (eqb l.value 118) (village line clock l)
    (call_of line clock l >>= village_of l.from 1 0))

-- What the words of a line mean. A line without a word is empty.
unfoldable pub words_mean : ℕ → List ℕ → Result Meaning Wrong
words_mean clock line = cond (eqb (word_from line 0) (length line)) (Ok meaning.Blank) (taken_letter line 0 >>= by_letter line clock)

-- What a line means: its words are those before a `#` (35).
abbrev pub uncommented : List ℕ → List ℕ
uncommented line = take (index_of 35 line) line

abbrev pub meaning_of : ℕ → List ℕ → Result Meaning Wrong
meaning_of clock line = words_mean clock (uncommented line)

-- The clock after a line: the moment of the last call that it stands for. Refunds and removals have no moment, and leave the clock as it is.
abbrev pub moment_in : ℕ → DeskCall → ℕ
moment_in clock (Try q) = q.at.0
moment_in clock (Peek q) = q.at.0
moment_in clock (Reserve q w) = q.at.0
moment_in clock (Refund key cost) = clock
moment_in clock (Remove key) = clock

abbrev pub clock_after : ℕ → Result Meaning Wrong → ℕ
clock_after clock (Ok (meaning.Calls call count spacing)) = moment_in clock (call_on spacing (count - 1) call)
clock_after clock (Ok (meaning.SetUp l)) = clock
clock_after clock (Ok meaning.Blank) = clock
clock_after clock (Err w) = clock
