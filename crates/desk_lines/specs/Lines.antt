-- The lines of the desk program: which call a line's bytes are, or that they are malformed, whichever line it is. That `s` is the first line and no other is
-- the rule of `desk_answers` (`opened` of `desk_answers`, `answered` of `desk_answers`).
use Rattle.std.specs.Prelude.{ℕ, ◌-◌, ◌^◌, Bool, true, false, cond, List, [], ◌∷◌, eqb, leb, length, get_or, Option, Some, None}
use Rattle.units.specs.declared.Nanos.{Nanos}
use Rattle.units.specs.Units.{nanos_of}
use Rattle.settings.specs.declared.Limit.TheVariants.{Open}
use Rattle.decimal.specs.Decimal.{number_of}
use Rattle.settings.specs.declared.rate.Rate.{Rate}
use Rattle.settings.specs.Eviction.{bounds, when_full_of}
use Rattle.desk_lines.specs.declared.Request.{Request}
use Rattle.desk_lines.specs.declared.Line.{Line}
use Rattle.desk_lines.specs.declared.Line.TheVariants.{SetUp, Try, Peek, Reserve, Refund, Remove, Malformed}
use Rattle.desk_lines.specs.Fields.{fields}

-- The bytes that a line may have before its end.
abbrev pub longest_line : ℕ
longest_line = 100

-- The largest numbers of the two widths, and the larger of the two rules when full.
abbrev pub most64 : ℕ
most64 = 2 ^ 64 - 1

abbrev pub most32 : ℕ
most32 = 2 ^ 32 - 1

abbrev pub most_rule : ℕ
most_rule = 1

-- A line is read field by field: it has failed, or some fields are left.
pub data Reading : Type 0 where
  failed : Reading
  left : List (List ℕ) → Reading

-- A field that was taken, and how the reading stands then. Once the reading has failed the field is 0, and no line comes of it.
pub record Taken (A : Type 0) : Type 0 where
  pub value : A
  pub rest : Reading

abbrev pub taken_number : List (List ℕ) → Option ℕ → Taken ℕ
taken_number fs None = record { value = 0; rest = failed }
taken_number fs (Some n) = record { value = n; rest = left fs }

-- The next field as a number of at most `most`.
unfoldable pub taken : ℕ → Reading → Taken ℕ
taken most failed = record { value = 0; rest = failed }
taken most (left []) = record { value = 0; rest = failed }
taken most (left (f ∷ fs)) = taken_number fs (number_of most f)

-- The next field as an idle time: the one byte `-` (45) for none, else a number.
unfoldable pub is_dash : List ℕ → Bool
is_dash f = cond (eqb (length f) 1) (eqb (get_or f 0 0) 45) false

abbrev pub dash_next : Reading → Bool
dash_next failed = false
dash_next (left []) = false
dash_next (left (f ∷ fs)) = is_dash f

abbrev pub skipped : Reading → Reading
skipped failed = failed
skipped (left []) = failed
skipped (left (f ∷ fs)) = left fs

abbrev pub idle_time : Taken ℕ → Taken (Option Nanos)
idle_time t = record { value = Some (nanos_of t.value); rest = t.rest }

abbrev pub taken_idle : Reading → Taken (Option Nanos)
taken_idle r = cond (dash_next r) (record { value = None; rest = skipped r }) (idle_time (taken most64 r))

-- A line is what its fields say once none is left; with fields left, or after a failure, it is malformed.
abbrev pub is_finished : Reading → Bool
is_finished failed = false
is_finished (left []) = true
is_finished (left (f ∷ fs)) = false

abbrev pub finished : Reading → Line → Line
finished r line = cond (is_finished r) line Malformed

-- `a` and `p`: now, key, cost.
abbrev pub taken_request : Reading → Taken Request
taken_request r =
    let now = taken most64 r in
    let key = taken most64 now.rest in
    let cost = taken most32 key.rest in
    record { value = record { at = nanos_of now.value; key = key.value; cost = cost.value }; rest = cost.rest }

abbrev pub try : Reading → Line
try r = finished (taken_request r).rest (Try (taken_request r).value)

abbrev pub peek : Reading → Line
peek r = finished (taken_request r).rest (Peek (taken_request r).value)

-- `r`: now, key, cost, max wait.
abbrev pub reserve : Reading → Line
reserve r =
    let longest = taken most64 (taken_request r).rest in
    finished longest.rest (Reserve (taken_request r).value (nanos_of longest.value))

-- `f`: key, cost.
abbrev pub refund : Reading → Line
refund r =
    let key = taken most64 r in
    let cost = taken most32 key.rest in
    finished cost.rest (Refund key.value cost.value)

-- `d`: key.
abbrev pub remove : Reading → Line
remove r = let key = taken most64 r in finished key.rest (Remove key.value)

-- `s`: amount, period, burst, initial, then max keys, shards, idle time, rule when full.
abbrev pub taken_rate : Reading → Taken Rate
taken_rate r =
    let amount = taken most32 r in
    let period = taken most64 amount.rest in
    let burst = taken most32 period.rest in
    let initial = taken most32 burst.rest in
    let rate : Rate = record {
      amount = amount.value;
      period = nanos_of period.value;
      burst = Some burst.value;
      initial = Some initial.value;
    } in
    record { value = rate; rest = initial.rest }

abbrev pub set_up : Reading → Line
set_up r =
    let rate = taken_rate r in
    let keys = taken most64 rate.rest in
    let shards = taken most64 keys.rest in
    let idle = taken_idle shards.rest in
    let rule = taken most_rule idle.rest in
    finished rule.rest (SetUp (record {
      limit = Open rate.value;
      eviction = bounds keys.value idle.value (when_full_of rule.value);
      shards = shards.value;
      classes = 0;
    }))

-- The first field is one letter, which says what the other fields are: by their bytes `a`, `p`, `r`, `f`, `d`, `s`.
unfoldable pub line_of_letter : ℕ → Reading → Line
line_of_letter letter r =
    cond (eqb letter 97) (try r)
    (cond (eqb letter 112) (peek r)
    (cond (eqb letter 114) (reserve r)
    (cond (eqb letter 102) (refund r)
    (cond (eqb letter 100) (remove r)
    (cond (eqb letter 115) (set_up r) Malformed)))))

abbrev pub line_of_fields : List (List ℕ) → Line
line_of_fields [] = Malformed
line_of_fields ([] ∷ fs) = Malformed
line_of_fields ((letter ∷ []) ∷ fs) = line_of_letter letter (left fs)
line_of_fields ((letter ∷ b ∷ bs) ∷ fs) = Malformed

-- The line that some bytes are, without the LF. More bytes than a line may have are malformed.
unfoldable pub line_of : List ℕ → Line
line_of bytes = cond (leb (length bytes) longest_line) (line_of_fields (fields bytes)) Malformed
