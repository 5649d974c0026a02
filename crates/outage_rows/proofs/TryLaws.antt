-- A try as the code makes it: a row is loaded, tried, and stored as it is then.
use Rattle.std.proofs.Common.{Some}
use Prim.Native.Nat.{ℕ, ◌*◌, ◌<◌, ◌/◌}
use mathlib.Core.Path.{◌≡◌, ◌∙◌}
use mathlib.Core.List.{List}
use lib.ListN.{length, set, drop}
use Rattle.rows.specs.Outcome.{outcome}
use Rattle.rows.proofs.OutcomeLaws.{answer_is, after_is}
use Rattle.settings.specs.declared.Settings.{Settings}
use Rattle.rules.specs.declared.codes.Told.{Told}
use Rattle.desk_answers.specs.Desk.{tried}
use Rattle.outage_rows.specs.declared.Row.{Row}
use Rattle.outage_rows.specs.Model.{row_at, next, request_of, after_try, tried_at, outage}
use Rattle.outage_rows.specs.Layout.{row_width, rows_in, state_in, state_of}
use Rattle.outage_rows.proofs.LayoutLaws.{rows_count}
use Rattle.outage_rows.proofs.NextLaws.{next_found}

pub state_tried : (s : Settings) (n p : ℕ) (rs rs' ws ws' : List ℕ) (row : Row) (told : Told)
    → row ≡ row_at (rows_in n rs) p → outcome told ws' ≡ tried s (request_of row) ws
    → rows_in n rs' ≡ set (rows_in n rs) p (after_try row told) → drop (row_width * n) rs' ≡ drop (row_width * n) rs
    → state_in n rs' ws' ≡ tried_at s (state_in n rs ws) p
unfolding tried_at
state_tried s n p rs rs' ws ws' row told is gave put others =
    let gave' : outcome told ws' ≡ tried s (request_of (row_at (rows_in n rs) p)) ws = rw is at gave in
    let rows_are = put ∙ (λ k. set (rows_in n rs) p (after_try (is k) (answer_is gave' k))) in
    λ j. record { rows = rows_are j; others = others j; store = after_is gave' j }

-- The next row is one of the rows in the words.
pub next_in_words : (n p : ℕ) (rs : List ℕ) → next (rows_in n rs) ≡ Some p → p < n
next_in_words n p rs is = rw (rows_count n rs) at (next_found (rows_in n rs) p is).below

-- As many rows as there are words for, before the run and after it.
pub run_of_all : (s : Settings) (n : ℕ) (rs rs' ws ws' : List ℕ) → length rs' ≡ length rs → n ≡ length rs / row_width
    → state_in n rs' ws' ≡ outage s (state_in n rs ws) → state_of rs' ws' ≡ outage s (state_of rs ws)
run_of_all s n rs rs' ws ws' long all gave = rw long (rw all at gave)
