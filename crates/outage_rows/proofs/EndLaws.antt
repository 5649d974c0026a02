-- What the run leaves of each row: its key and its cost stay; a row that has ended stays as it is; a row that ends with code 1 has made all its tries.
use Rattle.std.proofs.Common.{Some}
use Prim.Native.Nat.{ℕ, zero, suc, ◌≤◌, ◌<◌}
use native.Mathlib.Omega.{arith}
use mathlib.Core.Path.{◌≡◌, refl, sym, ap, ◌∙◌}
use mathlib.Core.Bool.{true, false, true≢false}
use lib.ListN.{length}
use lib.Seq.{get_or-set_same, get_or-set_other}
use borrow.Author.Tests.{ltb-false}
use Rattle.arith.proofs.Cases.{by_test, by_eq}
use Rattle.settings.specs.declared.Settings.{Settings}
use Rattle.rules.specs.declared.codes.Told.{Told}
use Rattle.desk_answers.specs.Desk.{tried}
use Rattle.outage_rows.specs.declared.Row.{Row}
use Rattle.outage_rows.specs.Model.{State, most_tries, no_row, row_at, is_live, next, request_of, again, made, waiting, ended, after_try, tried_at, ran}
use Rattle.outage_rows.proofs.NextLaws.{by_place, next_found}
use Rattle.outage_rows.proofs.RunLaws.{waits_again, ends_now, told_to_retry, ran_next, ran_still}

-- A claim about a row after a try holds if it holds of the row that waits and of the row that ends.
pub by_again : (Q : Row → Type 0) (row : Row) (told : Told)
    → (again (made row) told ≡ true → Q (waiting row told)) → (again (made row) told ≡ false → Q (ended row told)) → Q (after_try row told)
by_again Q row told waits ends =
    by_test (again (made row) told) (λ t. rw (waits_again row told t) (waits t)) (λ t. rw (ends_now row told t) (ends t))

module _ (s : Settings) where
  -- The row that is tried, and every other row.
  pub row_tried : (v : State) (p : ℕ) → p < length v.rows
      → row_at (tried_at s v p).rows p ≡ after_try (row_at v.rows p) (tried s (request_of (row_at v.rows p)) v.store).answer
  unfolding tried_at
  row_tried v p b = get_or-set_same v.rows p _ no_row b

  pub row_other : (v : State) (p j : ℕ) → (j ≡ p → ⊥) → row_at (tried_at s v p).rows j ≡ row_at v.rows j
  unfolding tried_at
  row_other v p j other = get_or-set_other v.rows p j _ no_row other

  -- What a try keeps of a live row the run keeps of every row.
  module _ (Q : Row → Type 0) (keeps : (row : Row) (told : Told) → is_live row ≡ true → Q row → Q (after_try row told)) where
    pub tried_keeps : (v : State) (p : ℕ) → next v.rows ≡ Some p → (j : ℕ) → Q (row_at v.rows j) → Q (row_at (tried_at s v p).rows j)
    tried_keeps v p is j q =
        let f = next_found v.rows p is in
        by_eq j p
        (λ same. rw (same, row_tried v p f.below) (keeps (row_at v.rows p) _ f.live (rw same at q)))
        (λ other. rw (row_other v p j other) q)

    pub ran_keeps : (n : ℕ) (v : State) (j : ℕ) → Q (row_at v.rows j) → Q (row_at (ran s n v).rows j)
    unfolding ran
    ran_keeps zero v j q = q
    ran_keeps (suc n) v j q =
        by_place (next v.rows)
        (λ p is. rw (ran_next s n v p is) (ran_keeps n (tried_at s v p) j (tried_keeps v p is j q)))
        (λ is. rw (ran_still s (suc n) v is) q)

  pub key_stays : (n : ℕ) (v : State) (j : ℕ) → (row_at (ran s n v).rows j).key ≡ (row_at v.rows j).key
  key_stays n v j =
      ran_keeps (λ row. row.key ≡ (row_at v.rows j).key)
      (λ row told live is. by_again (λ new. new.key ≡ (row_at v.rows j).key) row told (λ t. is) (λ t. is)) n v j refl

  pub cost_stays : (n : ℕ) (v : State) (j : ℕ) → (row_at (ran s n v).rows j).cost ≡ (row_at v.rows j).cost
  cost_stays n v j =
      ran_keeps (λ row. row.cost ≡ (row_at v.rows j).cost)
      (λ row told live is. by_again (λ new. new.cost ≡ (row_at v.rows j).cost) row told (λ t. is) (λ t. is)) n v j refl

  -- A row that has ended stays as it is.
  pub ended_stays : (n : ℕ) (v : State) (j : ℕ) → is_live (row_at v.rows j) ≡ false → row_at (ran s n v).rows j ≡ row_at v.rows j
  ended_stays n v j off =
      ran_keeps (λ row. row ≡ row_at v.rows j) (λ row told live is. absurd (true≢false (sym live ∙ ap is_live is ∙ off))) n v j refl

  -- A live row that ends with code 1 has made all its tries.
  abbrev MadeAll : Row → Type 0
  MadeAll row = is_live row ≡ false → row.code ≡ 1 → row.tries ≡ most_tries

  made_all : (row : Row) (told : Told) → MadeAll (after_try row told)
  made_all row told =
      by_again MadeAll row told
      (λ t off. absurd (true≢false off))
      (λ t off code. let no_more : most_tries ≤ made row = ltb-false _ _ (told_to_retry (made row) told code ∙ t) in omega arith)

  pub denied_made_all : (n : ℕ) (v : State) (j : ℕ) → is_live (row_at v.rows j) ≡ true → MadeAll (row_at (ran s n v).rows j)
  denied_made_all n v j live = ran_keeps MadeAll (λ row told on q. made_all row told) n v j (λ off. absurd (true≢false (sym live ∙ off)))
