-- The run of a village that comes up: rows of tries, which row is tried next, what becomes of it, and the run to its end.
use Rattle.std.specs.Prelude.{ℕ, zero, suc, ◌+◌, ◌*◌, ◌-◌, ◌^◌, ◌<◌, min, Bool, false, cond, List, [], ltb, eqb, length, get_or, set, Option, Some, None}
use Rattle.rows.specs.Outcome.{Outcome, outcome}
use Rattle.settings.specs.declared.Settings.{Settings}
use Rattle.rules.specs.declared.codes.Told.{Told}
use Rattle.desk_lines.specs.declared.Request.{Request}
use Rattle.desk_answers.specs.Desk.{tried}
use Rattle.outage_rows.specs.declared.Row.{Row}

-- A line is tried at most this many times.
abbrev pub most_tries : ℕ
most_tries = 1000

-- The largest cost that a try can have. A larger cost word is read as this number.
abbrev pub largest_cost : ℕ
largest_cost = 2 ^ 32 - 1

-- The rows, the words past the last row, and the words of the store. No step changes the words past the last row.
pub record State : Type 0 where
  pub rows : List Row
  pub others : List ℕ
  pub store : List ℕ

-- What stands past the last row; and the row at a place.
abbrev pub no_row : Row
no_row = record { at = record { 0 = 0 }; key = 0; cost = 0; tries = 0; code = 0; live = 0 }

abbrev pub row_at : List Row → ℕ → Row
row_at rows i = get_or rows i no_row

-- A row is live until its line has ended.
abbrev pub is_live : Row → Bool
is_live row = ltb 0 row.live

-- The earlier of two live rows, the lower of equals; the first of them is the earliest so far, if there was one.
unfoldable pub earlier : List Row → Option ℕ → ℕ → Option ℕ
earlier rows None i = Some i
earlier rows (Some best) i = cond (ltb (row_at rows i).at.0 (row_at rows best).at.0) (Some i) (Some best)

-- The earliest live row so far, once the row at place i is looked at too.
unfoldable pub sooner : List Row → Option ℕ → ℕ → Option ℕ
sooner rows best i = cond (is_live (row_at rows i)) (earlier rows best i) best

-- The earliest so far, once as many places from i on are looked at.
unfoldable pub next_from : List Row → ℕ → ℕ → Option ℕ → Option ℕ
next_from rows i zero best = best
next_from rows i (suc left) best = next_from rows (i + 1) left (sooner rows best i)

-- A place, if it is one, is one of the first n.
abbrev pub Below : ℕ → Option ℕ → Type 0
Below n None = Unit {0}
Below n (Some p) = p < n

-- The row that is tried next: the live row of the least moment, the lowest of equals.
abbrev pub next : List Row → Option ℕ
next rows = next_from rows 0 (length rows) None

-- The cost that a word is.
abbrev pub cost_of : ℕ → ℕ
cost_of word = min word largest_cost

-- The try of a row, as the desk reads it from a line.
abbrev pub request_of : Row → Request
request_of row = record { at = row.at; key = row.key; cost = cost_of row.cost }

-- The tries made, with one more, up to the most.
abbrev pub one_more : ℕ → ℕ
one_more tries = min (tries + 1) most_tries

abbrev pub made : Row → ℕ
made row = one_more row.tries

-- A denied row is tried again, unless it has made all its tries.
unfoldable pub again : ℕ → Told → Bool
again tries told = cond (eqb told.code 1) (ltb tries most_tries) false

-- It waits for the told moment. A row that ends keeps the moment of its last try.
abbrev pub waiting : Row → Told → Row
waiting row told = record { at = record { 0 = told.moment }; key = row.key; cost = row.cost; tries = made row; code = told.code; live = 1 }

abbrev pub ended : Row → Told → Row
ended row told = record { at = row.at; key = row.key; cost = row.cost; tries = made row; code = told.code; live = 0 }

-- What becomes of a row by what its try is told.
unfoldable pub after_try : Row → Told → Row
after_try row told = cond (again (made row) told) (waiting row told) (ended row told)

-- A try of the row at a place, by the limiter's rules.
unfoldable pub tried_at : Settings → State → ℕ → State
tried_at s v p =
    let row = row_at v.rows p in
    let o = tried s (request_of row) v.store in
    record { rows = set v.rows p (after_try row o.answer); others = v.others; store = o.after }

-- A step of the run: the next row is tried. Where no row is live, nothing changes.
abbrev pub step_at : Settings → State → Option ℕ → State
step_at s v None = v
step_at s v (Some p) = tried_at s v p

abbrev pub step : Settings → State → State
step s v = step_at s v (next v.rows)

-- So many steps.
unfoldable pub ran : Settings → ℕ → State → State
ran s zero v = v
ran s (suc n) v = ran s n (step s v)

-- The whole run: as many steps as all rows have tries.
abbrev pub outage : Settings → State → State
outage s v = ran s (most_tries * length v.rows) v

-- The run on values: rows as they end, and the words of the store after it. There are no words past the last row.
abbrev pub rows_run : Settings → List Row → List ℕ → Outcome (List Row) (List ℕ)
rows_run s rows ws = let v = outage s (record { rows = rows; others = []; store = ws }) in outcome v.rows v.store
