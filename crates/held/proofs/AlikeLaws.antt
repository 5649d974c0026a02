-- Held items that are alike to an operation: as many, in as many places, each alike, and alike again after each way in which items change. What operations do
-- to values that are alike is proved over any such relation. Two instances follow from how items are found: it may be by an index or in place order.
use Prim.Native.Nat.{ℕ, zero, suc, ◌+◌}
use mathlib.Core.Path.{◌≡◌, sym, ap}
use mathlib.Core.Bool.{Bool, true, false, cond}
use lib.Dec.{eqb}
use lib.ListN.{length}
use Rattle.rows.specs.Outcome.{Outcome}
use Rattle.held.specs.Held.{Finding, Held, Items, with_added, with_removed, item_at, appended, removed, stored, found_otherwise}
use Rattle.held.specs.Round.{Round, next_of, look_at, look, sweep}

-- Two outcomes: one answer, and states that are alike.
pub record SameOutcome {A S : Type 0} (Like : S → S → Type 0) (o q : Outcome A S) : Type 0 where
  pub answer : o.answer ≡ q.answer
  pub after : Like o.after q.after

-- Two tests that come to the same choose things that are alike, if both choices are.
pub alike_by_test : {S : Type 0} (Like : S → S → Type 0) (b : Bool) {c : Bool} {x y x' y' : S} → b ≡ c → Like x y → Like x' y'
    → Like (cond b x x') (cond c y y')
alike_by_test Like true same first second = rw (← same) first
alike_by_test Like false same first second = rw (← same) second

-- `Same` says which items are alike, `Like` which held items are. An item is read, and one comes, leaves or is stored, at equal places.
pub record KeptByWays {A : Type 0} (items : Items A) (Same : A → A → Type 0) (Like : Held A → Held A → Type 0) : Type 0 where
  pub count : {h g : Held A} → Like h g → h.count ≡ g.count
  pub room : {h g : Held A} → Like h g → length h.places ≡ length g.places
  pub item : {h g : Held A} {i j : ℕ} → Like h g → i ≡ j → Same (item_at items h i) (item_at items g j)
  pub appends : {h g : Held A} {x y : A} → Like h g → Same x y → Like (appended items h x) (appended items g y)
  pub removes : {h g : Held A} {i j : ℕ} → Like h g → i ≡ j → Like (removed items h i) (removed items g j)
  pub stores : {h g : Held A} {i j : ℕ} {x y : A} → Like h g → i ≡ j → Same x y → Like (stored h i x) (stored g j y)

-- A sweep of items that are alike, by a test that does not tell them apart.
pub record AlikeRounds {A : Type 0} (Like : Held A → Held A → Type 0) (r q : Round A) : Type 0 where
  pub items : Like r.items q.items
  pub next : r.next ≡ q.next

module _ {A : Type 0} {items : Items A} {Same : A → A → Type 0} {Like : Held A → Held A → Type 0} (ways : KeptByWays items Same Like) (goes : A → Bool)
    (blind : (x y : A) → Same x y → goes x ≡ goes y) where
  look_alike : {r q : Round A} → AlikeRounds Like r q → AlikeRounds Like (look items goes r) (look items goes q)
  unfolding look look_at
  look_alike {r} {q} like =
      let here : next_of r ≡ next_of q = rw (like.next, ways.count like.items) in
      alike_by_test (AlikeRounds Like) _ (ap (λ (n : ℕ). eqb n 0) (ways.count like.items)) like
      (alike_by_test (AlikeRounds Like) _ (blind _ _ (ways.item like.items here))
      (record { items = ways.removes like.items here; next = here })
      (record { items = like.items; next = ap (λ (i : ℕ). i + 1) here }))

  pub sweep_alike : (n : ℕ) {r q : Round A} → AlikeRounds Like r q → AlikeRounds Like (sweep items goes n r) (sweep items goes n q)
  unfolding sweep
  sweep_alike zero like = like
  sweep_alike (suc n) like = sweep_alike n (look_alike like)

-- The same items found otherwise are alike, where it does not matter whether the finding is changed before or after an item comes or leaves.
pub found_otherwise_alike : {A : Type 0} (items : Items A) (f : Finding → Finding)
    → ((x : Finding) (key i : ℕ) → with_added (f x) key i ≡ f (with_added x key i))
    → ((x : Finding) (hash : ℕ → ℕ) (n p : ℕ) → with_removed (f x) hash n p ≡ f (with_removed x hash n p))
    → KeptByWays items ◌≡◌ (λ h g. g ≡ found_otherwise h (f h.finding))
unfolding removed
found_otherwise_alike {A} items f adds removes = record {
  count = λ is. ap (λ (h : Held A). h.count) (sym is);
  room = λ is. ap (λ (h : Held A). length h.places) (sym is);
  item = λ is here. rw (is, here);
  appends = λ is same. rw (is, same, adds);
  removes = λ is here. rw (is, here, removes);
  stores = λ is here same. rw (is, here, same);
}
