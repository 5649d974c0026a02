-- The test of an index comes out true just where the index is `Exact`. Places are counted: the items take n places at least, and no more are in use, so each
-- item has one place and no other word has any.
use Prim.Native.Nat.{ℕ, zero, suc, ◌+◌, ◌-◌, ◌%◌, ◌≤◌, ◌<◌}
use native.Mathlib.Omega.{arith}
use mathlib.Core.Path.{◌≡◌, refl, sym, ◌∙◌}
use mathlib.Core.List.{List, [], ◌∷◌}
use mathlib.Core.Bool.{Bool, true, false, cond, not}
use lib.Dec.{eqb, ltb, leb}
use lib.ListN.{length, set, length-set}
use borrow.Author.Tests.{eq-eqb, ne_eqb, lt-ltb, le-ltb, le-leb}
use Rattle.arith.proofs.Cases.{by_test, by_eq, by_le}
use Rattle.index.specs.Walk.{at, seek}
use Rattle.index.specs.Exact.{copies, Before, OnWalk, Exact}
use Rattle.index.proofs.CopyLaws.{Stands, copies_set, copies_at, copies_stands, absent, only_copy, one, one_same, one_not}
use Rattle.index.proofs.WalkLaws.{walk_stops, passing_stops, passed_used}
use Rattle.index.proofs.StepLaws.{at_past}
use Rattle.index.proofs.ExactLaws.{used_below, item_stands, place_found}
use Rattle.converter_shards.specs.Checks.{any_below, unplaced, exactly}
use Rattle.converter_shards.proofs.CheckLaws.{both_ways, any_same, none_passes, none_of}

-- A word that is not 0 is taken out of a place: there is one empty place more, one copy of the word less, and as many of every other word.
module _ (w : ℕ) (ix : List ℕ) (used : 0 < w) (s : Stands w ix) where
  abbrev without : List ℕ
  without = set ix s.place 0

  change : (v : ℕ) → copies v without + one w v ≡ copies v ix + one 0 v
  change v = rw s.is at (copies_set v ix s.place 0 s.below)

  without_empty : copies 0 without ≡ copies 0 ix + 1
  without_empty = omega (arith, change 0, one_not w 0 (omega arith), one_same 0 0 refl)

  without_own : copies w without + 1 ≡ copies w ix
  without_own = omega (arith, change w, one_same w w refl, one_not 0 w (omega arith))

  without_other : (v : ℕ) → 0 < v → (v ≡ w → ⊥) → copies v without ≡ copies v ix
  without_other v positive other = omega (arith, change v, one_not w v (λ e. other (sym e)), one_not 0 v (omega arith))

-- The empty places are places, and so are those of the items.
empty_fit : (ix : List ℕ) → copies 0 ix ≤ length ix
unfolding copies
empty_fit [] = omega arith
empty_fit (x ∷ ix) = by_eq x 0 (λ e. omega (arith, empty_fit ix, one_same x 0 e)) (λ n. omega (arith, empty_fit ix, one_not x 0 n))

items_fit : (n : ℕ) (ix : List ℕ) → ((i : ℕ) → i < n → 1 ≤ copies (i + 1) ix) → copies 0 ix + n ≤ length ix
items_fit zero ix each = omega (arith, empty_fit ix)
items_fit (suc n) ix each =
    let s = copies_stands (n + 1) ix (each n (omega arith)) in
    let rest = items_fit n (without (n + 1) ix (omega arith) s) (λ i below. omega (
      arith,
      each i (omega arith),
      without_other (n + 1) ix (omega arith) s
          (i + 1) (omega arith) (λ e. omega arith),
    )) in
    omega (arith, rest, without_empty (n + 1) ix (omega arith) s, length-set ix s.place 0)

-- All places but n are empty, and n items have a place each.
module _ (n : ℕ) (ix : List ℕ) (each : (i : ℕ) → i < n → 1 ≤ copies (i + 1) ix) (full : copies 0 ix + n ≡ length ix) where
  -- No word can be taken out so that each item keeps a place.
  none_to_spare : (w : ℕ) (used : 0 < w) (s : Stands w ix) → ((i : ℕ) → i < n → 1 ≤ copies (i + 1) (without w ix used s)) → ⊥
  none_to_spare w used s kept =
      omega (arith, items_fit n (without w ix used s) kept, without_empty w ix used s, length-set ix s.place 0)

  each_once : (i : ℕ) → i < n → copies (i + 1) ix ≡ 1
  each_once i below =
      by_le (copies (i + 1) ix) 1 (λ most. omega (arith, each i below))
      (λ more.
      let used : 0 < i + 1 = omega arith in
      let s = copies_stands (i + 1) ix (each i below) in
      absurd (none_to_spare (i + 1) used s (λ j b.
      by_eq j i
      (λ e. rw e (omega (arith, without_own (i + 1) ix used s)))
      (λ other. omega (arith, each j b, without_other (i + 1) ix used s (j + 1) (omega arith) (λ e. other (omega arith)))))))

  none_else : (w : ℕ) → n < w → copies w ix ≡ 0
  none_else w over =
      by_eq (copies w ix) 0 (λ e. e)
      (λ some.
      let used : 0 < w = omega arith in
      let s = copies_stands w ix (omega (arith, some)) in
      absurd (none_to_spare w used s (λ j b. omega (arith, each j b, without_other w ix used s (j + 1) (omega arith) (λ e. omega arith)))))

-- The walk of item i meets its number: then it stands somewhere, and no empty place comes before it.
module _ (hash : ℕ → ℕ) (ix : List ℕ) (i : ℕ) (met : at ix (seek ix (hash i) (i + 1)) ≡ i + 1) where
  met_below : seek ix (hash i) (i + 1) < length ix
  met_below = used_below ix (seek ix (hash i) (i + 1)) (omega (arith, met))

  met_copies : 1 ≤ copies (i + 1) ix
  met_copies = copies_at (i + 1) ix (seek ix (hash i) (i + 1)) met_below met

  met_passed : (y : ℕ) → y < length ix → Before (hash i % length ix) (seek ix (hash i) (i + 1)) y → 0 < at ix y
  unfolding seek
  met_passed y inside before =
      let test : ℕ → Bool = λ v. eqb v (i + 1) in
      let z : ℕ = seek ix (hash i) (i + 1) in
      let S = walk_stops ix test (hash i) z met_below (passing_stops test (at ix z) (eq-eqb _ _ met)) in
      passed_used test (at ix y) (S.passed y inside before)

-- From what the test finds to `Exact`.
module _ (hash : ℕ → ℕ) (n : ℕ) (ix : List ℕ) (room : n < length ix) (full : copies 0 ix + n ≡ length ix)
    (met : (i : ℕ) → i < n → at ix (seek ix (hash i) (i + 1)) ≡ i + 1) where
  each : (i : ℕ) → i < n → 1 ≤ copies (i + 1) ix
  each i below = met_copies hash ix i (met i below)

  on_walk_lem : OnWalk hash (length ix) ix
  on_walk_lem x y hx hy used before =
      let i : ℕ = at ix x - 1 in
      let word : at ix x ≡ i + 1 = omega arith in
      let below : i < n = by_le (at ix x) n (λ l. omega arith) (λ l. absurd (absent (at ix x) ix x hx (none_else n ix each full (at ix x) l) refl)) in
      let z : ℕ = seek ix (hash i) (i + 1) in
      let same : x ≡ z = only_copy (i + 1) ix x z (omega arith) (each_once n ix each full i below) hx (met_below hash ix i (met i below)) word (met i below) in
      met_passed hash ix i (met i below) y hy (rw (← same) before)

  met_exact : Exact hash n ix
  met_exact = record { room = room; once = each_once n ix each full; others = none_else n ix each full; empty = full; on_walk = on_walk_lem }

-- The look at one item, by the tests of the code.
module _ (hash : ℕ → ℕ) (ix : List ℕ) (i : ℕ) where
  placed : unplaced hash ix i ≡ false → at ix (seek ix (hash i) (i + 1)) ≡ i + 1
  unfolding unplaced
  placed met =
      by_eq (at ix (seek ix (hash i) (i + 1))) (i + 1) (λ e. e) (λ differ. both_ways (rw (ne_eqb _ _ differ)) met)

  pub placed_is : {q w : ℕ} → q ≡ seek ix (hash i) (i + 1) → w ≡ at ix q → w ≡ i + 1 → false ≡ unplaced hash ix i
  unfolding unplaced
  placed_is place word is = rw (eq-eqb (at ix (seek ix (hash i) (i + 1))) (i + 1) (rw (← place) (sym word ∙ is)))

  pub unplaced_is : {q w : ℕ} → q ≡ seek ix (hash i) (i + 1) → w ≡ at ix q → (w ≡ i + 1 → ⊥) → true ≡ unplaced hash ix i
  unfolding unplaced
  unplaced_is place word differ = rw (ne_eqb (at ix (seek ix (hash i) (i + 1))) (i + 1) (λ e. differ (word ∙ rw place e)))

  pub unplaced_by_word : {q w : ℕ} → q ≡ seek ix (hash i) (i + 1) → w ≡ at ix q → not (eqb w (i + 1)) ≡ unplaced hash ix i
  unplaced_by_word {q} {w} place word =
      by_eq w (i + 1) (λ is. rw (eq-eqb _ _ is) (placed_is place word is)) (λ differ. rw (ne_eqb _ _ differ) (unplaced_is place word differ))

  pub unplaced_by_place : {q size : ℕ} → length ix ≡ size → q ≡ seek ix (hash i) (i + 1) → size ≤ q → leb size q ≡ unplaced hash ix i
  unplaced_by_place {q} {size} long place past =
      le-leb size q past ∙ unplaced_is place refl (λ e. omega (arith, at_past ix q (omega arith)))

-- The test, by its three parts.
module _ (hash : ℕ → ℕ) (n : ℕ) (ix : List ℕ) where
  pub exactly_no_room : length ix ≤ n → false ≡ exactly hash n ix
  unfolding exactly
  exactly_no_room none = rw (le-ltb n (length ix) none)

  pub exactly_not_empty : (copies 0 ix ≡ length ix - n → ⊥) → false ≡ exactly hash n ix
  unfolding exactly
  exactly_not_empty differ = by_test (ltb n (length ix)) (λ t. rw (t, ne_eqb (copies 0 ix) (length ix - n) differ)) (λ t. rw t)

  pub exactly_by_walks : n < length ix → copies 0 ix ≡ length ix - n → cond (any_below n (unplaced hash ix)) false true ≡ exactly hash n ix
  unfolding exactly
  exactly_by_walks room empty = rw (lt-ltb n (length ix) room, eq-eqb (copies 0 ix) (length ix - n) empty)

  -- True: the index is exact.
  pub exactly_is_exact : exactly hash n ix ≡ true → Exact hash n ix
  exactly_is_exact holds =
      by_le (length ix) n (λ none. both_ways holds (sym (exactly_no_room none)))
      (λ room.
      by_eq (copies 0 ix) (length ix - n)
      (λ empty.
      by_test (any_below n (unplaced hash ix))
      (λ some. both_ways holds (sym (exactly_by_walks room empty) ∙ rw some))
      (λ none. met_exact hash n ix room (omega arith) (λ i below. placed hash ix i (none_passes n (unplaced hash ix) none i below))))
      (λ differ. both_ways holds (sym (exactly_not_empty differ))))

  -- The index is exact: true.
  pub exact_is_exactly : Exact hash n ix → exactly hash n ix ≡ true
  exact_is_exactly E =
      let none : any_below n (unplaced hash ix) ≡ false =
      none_of n (unplaced hash ix) (λ i below. sym (placed_is hash ix i refl refl (place_found hash ix i E.on_walk (item_stands E i below)).is)) in
      sym (exactly_by_walks E.room (omega (arith, E.empty, E.room))) ∙ rw none

-- The test by the tests of the code, for an index of so many places.
module _ (hash : ℕ → ℕ) (n : ℕ) (ix : List ℕ) {size : ℕ} (long : length ix ≡ size) where
  pub test_no_room : size ≤ n → false ≡ exactly hash n ix
  test_no_room none = exactly_no_room hash n ix (omega arith)

  pub test_not_empty : {e : ℕ} → e ≡ copies 0 ix → (e ≡ size - n → ⊥) → false ≡ exactly hash n ix
  test_not_empty counted differ = exactly_not_empty hash n ix (λ same. differ (counted ∙ same ∙ rw long))

  module _ (room : n < size) {e : ℕ} (counted : e ≡ copies 0 ix) (empty : e ≡ size - n) {b : Bool} (walks : b ≡ any_below n (unplaced hash ix)) where
    by_walks : cond (any_below n (unplaced hash ix)) false true ≡ exactly hash n ix
    by_walks = exactly_by_walks hash n ix (omega arith) (sym counted ∙ empty ∙ rw (← long))

    pub test_by_walks : not b ≡ exactly hash n ix
    test_by_walks = by_test b (λ missed. rw missed (rw (sym walks ∙ missed) at by_walks)) (λ met. rw met (rw (sym walks ∙ met) at by_walks))

-- The test for other hashes that are the same on the items.
pub exactly_agrees : (hash hash' : ℕ → ℕ) (n : ℕ) (ix : List ℕ) → ((i : ℕ) → i < n → hash i ≡ hash' i) → exactly hash n ix ≡ exactly hash' n ix
unfolding exactly unplaced
exactly_agrees hash hash' n ix same = rw (any_same n (unplaced hash ix) (unplaced hash' ix) (λ i below. rw (same i below)))
