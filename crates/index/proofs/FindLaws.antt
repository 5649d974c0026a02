-- Lookup by an index. On any words, what it finds is an item that passes and that a place on the walk names. With an exact index it finds an item that passes
-- if there is one. So it gives what a lookup by the lowest place gives, if no two items pass.
use Rattle.std.proofs.Common.{◌≡◌, ℕ, zero, suc, ◌+◌, ◌-◌, ◌%◌, ◌<◌, ◌≤◌, Bool, true, eqb, List, length, sym, refl, ap, ◌∙◌, arith, eq-eqb, ne_eqb, le-leb}
use Rattle.std.proofs.Common.{Option, Some, None}
use lib.ListN.{get_or-eq_default}
use lib.Seq.{set_out}
use borrow.Author.Tests.{lt-leb}
use Rattle.arith.proofs.Cases.{by_test, by_eq, by_le}
use Rattle.rows.specs.Places.{lowest}
use Rattle.rows.proofs.LowestLaws.{Found, found_passes, nowhere_passes_none}
use Rattle.index.specs.Walk.{at, onward, stops, walk_from, walk, hits, named, find_from, find, seek, add}
use Rattle.index.specs.Exact.{Exact}
use Rattle.index.proofs.WalkLaws.{StopsAt, walk_stops, empty_stops, passing_stops, stops_passing, passed_used, stops_used, not_both_ways}
use Rattle.index.proofs.ExactLaws.{empty_place, item_stands}

-- A lookup gives an item or nothing.
by_place : {Q : Type 0} (p : Option ℕ) → ((i : ℕ) → p ≡ Some i → Q) → (p ≡ None → Q) → Q
by_place (Some i) found none = found i refl
by_place None found none = none refl

not_nowhere : {p : Option ℕ} {i : ℕ} → p ≡ Some i → p ≡ None → ⊥
not_nowhere e f = let o : ◌≡◌ {A = ℕ} 0 1 = cc in omega arith

-- A word names item p, and the walk stopped there: the item passes.
hit_passes : (n : ℕ) (test : ℕ → Bool) (w p : ℕ) → w ≡ p + 1 → hits n test w ≡ true → Found test n p
hit_passes n test w p e t =
    let item : w - 1 ≡ p = omega arith in
    by_le w n
    (λ l. record { below = omega arith; passes = rw (← item) (rw (le-leb w n l) at t) })
    (λ l. absurd (not_both_ways t (rw (lt-leb w n l))))

named_item : (w p : ℕ) → named w ≡ Some p → w ≡ p + 1
named_item w p e =
    by_eq w 0
    (λ k. absurd (not_nowhere e (rw (eq-eqb w 0 k))))
    (λ k. let same : Some (w - 1) ≡ Some p = (rw (ne_eqb w 0 k) at e) in let item : w - 1 ≡ p = cc in omega arith)

-- From place q on, a lookup found item p: the item passes, and a walk from q that looks for the item's number finds it.
record Led (n : ℕ) (test : ℕ → Bool) (ix : List ℕ) (p q left : ℕ) : Type 0 where
  found : Found test n p
  names : at ix (walk_from ix (λ v. eqb v (p + 1)) q left) ≡ p + 1

led : (n : ℕ) (test : ℕ → Bool) (ix : List ℕ) (p q left : ℕ) → named (at ix (walk_from ix (hits n test) q left)) ≡ Some p → Led n test ix p q left
unfolding walk_from
led n test ix p q zero e =
    let past : at ix (length ix) ≡ 0 = get_or-eq_default ix 0 (omega arith) in absurd (omega (arith, named_item (at ix (length ix)) p e))
led n test ix p q (suc left) e =
    by_test (stops (hits n test) (at ix q))
    (λ s.
    let w : at ix q ≡ p + 1 = named_item (at ix q) p (rw s at e) in
    record { found = hit_passes n test (at ix q) p w (stops_passing (hits n test) (at ix q) s (omega arith)); names = here w })
    (λ s.
    let rest = led n test ix p (onward (length ix) q) left (rw s at e) in
    let used = passed_used (hits n test) (at ix q) s in
    record {
      found = rest.found;
      names = by_eq (at ix q) (p + 1) here (λ k. rw (ne_eqb (at ix q) 0 (omega arith), ne_eqb (at ix q) (p + 1) k) rest.names);
    })
  where
    here : at ix q ≡ p + 1 → at ix (walk_from ix (λ v. eqb v (p + 1)) q (suc left)) ≡ p + 1
    here w = rw (passing_stops (λ v. eqb v (p + 1)) (at ix q) (eq-eqb _ _ w)) w

-- On any words: what is found is below the count and passes.
pub find_sound : (n : ℕ) (test : ℕ → Bool) (ix : List ℕ) (h p : ℕ) → find n test ix h ≡ Some p → Found test n p
unfolding find find_from
find_sound n test ix h p e = (led n test ix p (h % length ix) (length ix) e).found

-- On any words: what is found is named by a place on the walk.
pub found_named : (n : ℕ) (test : ℕ → Bool) (ix : List ℕ) (h p : ℕ) → find n test ix h ≡ Some p → at ix (seek ix h (p + 1)) ≡ p + 1
unfolding find find_from seek walk
found_named n test ix h p e = (led n test ix p (h % length ix) (length ix) e).names

-- On any words: an added item gets no place if its walk stops at no empty one. Then it is found only if a place on its walk named its number already.
pub found_without_a_place : (n : ℕ) (test : ℕ → Bool) (ix : List ℕ) (h i : ℕ) → length ix ≤ seek ix h 0 → find n test (add ix h i) h ≡ Some i
    → at ix (seek ix h (i + 1)) ≡ i + 1
unfolding add
found_without_a_place n test ix h i none e = found_named n test ix h i (rw (set_out ix (seek ix h 0) (i + 1) none) at e)

module _ {hash : ℕ → ℕ} {n : ℕ} {ix : List ℕ} (E : Exact hash n ix) (test : ℕ → Bool) (h : ℕ) where
  -- A walk that stopped at an empty place went past no item that passes.
  empty_misses : at ix (walk ix (hits n test) h) ≡ 0 → (j : ℕ) → j < n → hash j ≡ h → test j ≡ true → ⊥
  empty_misses k j l own passes =
      let e = empty_place E in
      let S : StopsAt ix (hits n test) (h % length ix) (walk ix (hits n test) h) =
      walk_stops ix (hits n test) h e.place e.below (empty_stops (hits n test) _ e.is) in
      let s = item_stands E j l in
      let x : ℕ = s.place in
      let item : at ix x - 1 ≡ j = omega (arith, s.is) in
      let u : 0 < at ix x = omega (arith, s.is) in
      let hit : hits n test (at ix x) ≡ true = (rw (le-leb (at ix x) n (omega (arith, s.is)), item) passes) in
      let home : hash (at ix x - 1) ≡ h = (rw item own) in
      let v = stops_used S x s.below u hit (λ y hy b. E.on_walk x y s.below hy u (rw home b)) in
      omega arith

  -- Where nothing is found, no item of the hash passes.
  pub find_nowhere : find n test ix h ≡ None → (j : ℕ) → j < n → hash j ≡ h → test j ≡ true → ⊥
  unfolding find find_from walk
  find_nowhere e j l own passes =
      let z : ℕ = walk ix (hits n test) h in
      empty_misses (by_eq (at ix z) 0 (λ k. k)
      (λ k. let named_z : Some (at ix z - 1) ≡ None = (rw (ne_eqb (at ix z) 0 k) at e) in let o : ◌≡◌ {A = ℕ} 0 1 = cc in absurd (omega arith))) j l own passes

  -- All items that pass have the hash, and no two items pass.
  module _ (own : (j : ℕ) → j < n → test j ≡ true → hash j ≡ h) (only : (j k : ℕ) → j < n → k < n → test j ≡ true → test k ≡ true → j ≡ k) where
    -- The item that passes is found.
    pub find_held : (i : ℕ) → i < n → test i ≡ true → find n test ix h ≡ Some i
    find_held i l passes =
        by_place (find n test ix h)
        (λ p e. let f = find_sound n test ix h p e in e ∙ ap Some (only p i f.below l f.passes passes))
        (λ e. absurd (find_nowhere e i l (own i l passes) passes))

    -- Lookup by the index is lookup by the lowest place.
    pub find_lowest : find n test ix h ≡ lowest n test
    find_lowest =
        by_place (lowest n test)
        (λ p e. let f = found_passes n test p e in find_held p f.below f.passes ∙ sym e)
        (λ e.
        by_place (find n test ix h)
        (λ p g. let f = find_sound n test ix h p g in absurd (not_both_ways f.passes (nowhere_passes_none n test p e f.below)))
        (λ g. g ∙ sym e))
