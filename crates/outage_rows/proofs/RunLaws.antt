-- The run: each try takes one of the tries that are left, so the run ends, with no row live.
use Rattle.std.proofs.Common.{Some, None}
use Prim.Native.Nat.{ℕ, zero, suc, ◌+◌, ◌*◌, ◌-◌, ◌≤◌, ◌<◌, min}
use native.Mathlib.Omega.{arith}
use mathlib.Core.Path.{◌≡◌, refl, sym, ap, ◌∙◌}
use mathlib.Core.Bool.{true, false, cond, true≢false}
use mathlib.Core.List.{List, [], ◌∷◌}
use lib.ListN.{length, set, length-set}
use lib.Dec.{ltb, eqb}
use borrow.Author.Tests.{ltb-true, eqb-true, ne_eqb}
use Rattle.arith.proofs.Cases.{by_test}
use Rattle.rows.specs.Outcome.{outcome}
use Rattle.settings.specs.declared.Settings.{Settings}
use Rattle.rules.specs.declared.codes.Told.{Told}
use Rattle.desk_answers.specs.Desk.{tried}
use Rattle.outage_rows.specs.declared.Row.{Row}
use Rattle.outage_rows.specs.Model.{State, most_tries, row_at, is_live, next, request_of, again, made, waiting, ended, after_try, tried_at, ran, outage}
use Rattle.outage_rows.specs.Model.{rows_run}
use Rattle.outage_rows.proofs.NextLaws.{by_place, next_found, next_nowhere}

-- The tries that a row has left; and those of all rows. A live row that has made too many has one.
unfoldable pub left_of : Row → ℕ
left_of row = cond (is_live row) (most_tries - min row.tries (most_tries - 1)) 0

unfoldable pub tries_left : List Row → ℕ
tries_left [] = 0
tries_left (row ∷ rows) = left_of row + tries_left rows

-- A row that is tried again, and one that ends.
pub waits_again : (row : Row) (told : Told) → again (made row) told ≡ true → after_try row told ≡ waiting row told
unfolding after_try
waits_again row told t = rw t

pub ends_now : (row : Row) (told : Told) → again (made row) told ≡ false → after_try row told ≡ ended row told
unfolding after_try
ends_now row told t = rw t

-- A row that is tried again was told 1, and has tries left. In each case of the code:
pub record Denied (tries : ℕ) (told : Told) : Type 0 where
  pub code : told.code ≡ 1
  pub few : tries < most_tries

pub again_denied : (tries : ℕ) (told : Told) → again tries told ≡ true → Denied tries told
unfolding again
again_denied tries told =
    by_test (eqb told.code 1)
    (λ c. rw (c, again) (λ t. record { code = eqb-true _ _ c; few = ltb-true _ _ t }))
    (λ c. rw (c, again) (λ t. absurd (true≢false (sym t))))

pub told_otherwise : (tries : ℕ) (told : Told) → (told.code ≡ 1 → ⊥) → false ≡ again tries told
unfolding again
told_otherwise tries told other = rw (ne_eqb _ _ other)

pub told_to_retry : (tries : ℕ) (told : Told) → told.code ≡ 1 → ltb tries most_tries ≡ again tries told
unfolding again
told_to_retry tries told code = rw code

live_has_some : (row : Row) → is_live row ≡ true → 0 < left_of row
unfolding left_of
live_has_some row live = rw live (omega arith)

-- A try takes one.
try_takes_one : (row : Row) (told : Told) → is_live row ≡ true → left_of (after_try row told) < left_of row
unfolding left_of
try_takes_one row told live =
    by_test (again (made row) told)
    (λ t. let d = again_denied (made row) told t in rw (waits_again row told t, live) (omega (arith, d.few)))
    (λ t. rw (ends_now row told t, live) (omega arith))

left_most : (row : Row) → left_of row ≤ most_tries
unfolding left_of
left_most row = by_test (is_live row) (λ t. rw t (omega arith)) (λ t. rw t (omega arith))

pub left_at_most : (rows : List Row) → tries_left rows ≤ most_tries * length rows
unfolding tries_left
left_at_most [] = omega arith
left_at_most (row ∷ rows) = omega (arith, left_most row, left_at_most rows)

left_of_one : (rows : List Row) (p : ℕ) → p < length rows → left_of (row_at rows p) ≤ tries_left rows
unfolding tries_left
left_of_one [] p b = absurd (omega arith)
left_of_one (row ∷ rows) zero b = omega arith
left_of_one (row ∷ rows) (suc p) b = omega (arith, left_of_one rows p (omega arith))

left_after : (rows : List Row) (p : ℕ) (new : Row) → p < length rows → tries_left (set rows p new) + left_of (row_at rows p) ≡ tries_left rows + left_of new
unfolding tries_left
left_after [] p new b = absurd (omega arith)
left_after (row ∷ rows) zero new b = omega arith
left_after (row ∷ rows) (suc p) new b = omega (arith, left_after rows p new (omega arith))

-- Where no try is left no row is next.
none_left : (rows : List Row) → tries_left rows ≡ 0 → next rows ≡ None
none_left rows none =
    by_place (next rows)
    (λ p is. let f = next_found rows p is in absurd (omega (arith, live_has_some (row_at rows p) f.live, left_of_one rows p f.below)))
    (λ is. is)

module _ (s : Settings) where
  pub tried_rows : (v : State) (p : ℕ) → length (tried_at s v p).rows ≡ length v.rows
  unfolding tried_at
  tried_rows v p = simp length-set

  -- A step takes a try.
  pub try_falls : (v : State) (p : ℕ) → next v.rows ≡ Some p → tries_left (tried_at s v p).rows < tries_left v.rows
  unfolding tried_at
  try_falls v p is =
      let f = next_found v.rows p is in
      let row = row_at v.rows p in
      let told = (tried s (request_of row) v.store).answer in
      omega (arith, left_after v.rows p (after_try row told) f.below, try_takes_one row told f.live)

  -- Steps, one by one.
  pub ran_next : (n : ℕ) (v : State) (p : ℕ) → next v.rows ≡ Some p → ran s (suc n) v ≡ ran s n (tried_at s v p)
  unfolding ran
  ran_next n v p is = rw is

  pub ran_still : (n : ℕ) (v : State) → next v.rows ≡ None → ran s n v ≡ v
  unfolding ran
  ran_still zero v is = refl
  ran_still (suc n) v is = rw is (ran_still n v is)

  -- As many steps as there are tries left are enough: more of them change nothing.
  pub ran_enough : (n m : ℕ) (v : State) → tries_left v.rows ≤ n → tries_left v.rows ≤ m → ran s n v ≡ ran s m v
  ran_enough zero m v a b = let is = none_left v.rows (omega arith) in ran_still 0 v is ∙ sym (ran_still m v is)
  ran_enough (suc n) zero v a b = let is = none_left v.rows (omega arith) in ran_still (suc n) v is ∙ sym (ran_still 0 v is)
  ran_enough (suc n) (suc m) v a b =
      by_place (next v.rows)
      (λ p is.
      let falls = try_falls v p is in
      ran_next n v p is ∙ ran_enough n m (tried_at s v p) (omega arith) (omega arith) ∙ sym (ran_next m v p is))
      (λ is. ran_still (suc n) v is ∙ sym (ran_still (suc m) v is))

  pub ran_ends : (n : ℕ) (v : State) → tries_left v.rows ≤ n → next (ran s n v).rows ≡ None
  ran_ends zero v a = let is = none_left v.rows (omega arith) in rw (ran_still 0 v is) is
  ran_ends (suc n) v a =
      by_place (next v.rows)
      (λ p is. rw (ran_next n v p is) (ran_ends n (tried_at s v p) (omega (arith, try_falls v p is))))
      (λ is. rw (ran_still (suc n) v is) is)

  pub ran_rows : (n : ℕ) (v : State) → length (ran s n v).rows ≡ length v.rows
  unfolding ran
  ran_rows zero v = refl
  ran_rows (suc n) v =
      by_place (next v.rows)
      (λ p is. rw (ran_next n v p is) (ran_rows n (tried_at s v p) ∙ tried_rows v p))
      (λ is. rw (ran_still (suc n) v is))

  -- After the run no row is live.
  pub outage_ends_all : (v : State) (j : ℕ) → j < length v.rows → is_live (row_at (outage s v).rows j) ≡ false
  outage_ends_all v j b =
      let n : ℕ = most_tries * length v.rows in
      next_nowhere (outage s v).rows (ran_ends n v (left_at_most v.rows)) j (rw (ran_rows n v) b)

  -- The loop of the run: from a state, with any number of steps that is enough, the run comes to a state. It does so from the start; from one try to the next,
  -- each of which takes one of the tries left; and where no row is next it has come there.
  abbrev pub RunsTo : State → State → Type 0
  RunsTo v w = (k : ℕ) → tries_left v.rows ≤ k → ran s k v ≡ w

  pub runs_from_start : (v : State) → RunsTo v (outage s v)
  runs_from_start v k enough = ran_enough k (most_tries * length v.rows) v enough (left_at_most v.rows)

  pub takes_a_try : (v v' : State) (p : ℕ) → next v.rows ≡ Some p → v' ≡ tried_at s v p → tries_left v'.rows < tries_left v.rows
  takes_a_try v v' p is tries = rw tries (try_falls v p is)

  pub runs_on : (v v' w : State) (p : ℕ) → next v.rows ≡ Some p → v' ≡ tried_at s v p → RunsTo v w → RunsTo v' w
  runs_on v v' w p is tries same k enough =
      let left : ℕ = tries_left v.rows in
      let falls = takes_a_try v v' p is tries in
      ran_enough k left v' enough (omega arith) ∙ ap (ran s left) tries ∙ sym (ran_next left v p is) ∙ same (suc left) (omega arith)

  pub runs_out : (v w : State) → next v.rows ≡ None → RunsTo v w → v ≡ w
  runs_out v w is same = sym (ran_still (tries_left v.rows) v is) ∙ same (tries_left v.rows) (omega arith)

  -- The words past the last row do not matter to the run.
  abbrev beside : List ℕ → State → State
  beside others v = record { rows = v.rows; others = others; store = v.store }

  ran_beside : (n : ℕ) (others : List ℕ) (v : State) → ran s n (beside others v) ≡ beside others (ran s n v)
  unfolding ran tried_at
  ran_beside zero others v = refl
  ran_beside (suc n) others v =
      by_place (next v.rows)
      (λ p is. rw (ran_next n v p is, ran_next n (beside others v) p is) (ran_beside n others (tried_at s v p)))
      (λ is. rw (ran_still (suc n) v is, ran_still (suc n) (beside others v) is))

  pub outage_on_values : (rows : List Row) (others ws : List ℕ) {v : State} → v ≡ outage s (record { rows = rows; others = others; store = ws })
      → outcome v.rows v.store ≡ rows_run s rows ws
  outage_on_values rows others ws gave =
      ap (λ (w : State). outcome w.rows w.store) (gave ∙ ran_beside (most_tries * length rows) others (record { rows = rows; others = []; store = ws }))

  pub run_keeps_count : (rows : List Row) (ws : List ℕ) → length (rows_run s rows ws).answer ≡ length rows
  run_keeps_count rows ws = ran_rows (most_tries * length rows) (record { rows = rows; others = []; store = ws })
