-- The sweep: what a look is in each case, what a sweep keeps, and the steps of a loop that makes its looks one by one.
use Prim.Native.Nat.{ℕ, zero, suc, ◌+◌, ◌-◌, ◌≤◌, ◌<◌, max}
use mathlib.Core.Path.{◌≡◌, refl, sym, ◌∙◌}
use mathlib.Core.Bool.{Bool, true, false}
use mathlib.Core.List.{List}
use native.Mathlib.Omega.{arith}
use lib.Dec.{eqb}
use lib.ListN.{length}
use borrow.Author.Tests.{eqb-false, eq-eqb, ne_eqb}
use Rattle.arith.proofs.Cases.{by_test}
use Rattle.held.specs.Held.{Held, Sound, Items, item_at, removed, total, Complete}
use Rattle.held.specs.Round.{Round, next_of, look_at, look, sweep}
use Rattle.held.proofs.HeldLaws.{wrapped_below, removed_count, removed_length, removed_sound, total_removed}
use Rattle.held.proofs.FindingLaws.{kind_of, removed_kind, removed_complete}

module _ {A : Type 0} (items : Items A) (goes : A → Bool) where
  -- A look at an item that goes, at one that stays, and where there is none.
  module _ (r : Round A) where
    pub look_goes : 0 < r.items.count → goes (item_at items r.items (next_of r)) ≡ true
        → record { items = removed items r.items (next_of r); next = next_of r } ≡ look items goes r
    unfolding look look_at
    look_goes some passes = rw (ne_eqb r.items.count 0 (omega arith), look_at, passes)

    pub look_stays : 0 < r.items.count → goes (item_at items r.items (next_of r)) ≡ false
        → record { items = r.items; next = next_of r + 1 } ≡ look items goes r
    unfolding look look_at
    look_stays some fails = rw (ne_eqb r.items.count 0 (omega arith), look_at, fails)

    pub look_none : r.items.count ≡ 0 → look items goes r ≡ r
    unfolding look
    look_none none = rw (eq-eqb _ _ none)

  -- A look leaves the round as it is, takes out an item that goes, or moves on by a place.
  look_cases : (Q : Round A → Type 0) (r : Round A) → Q r
      → (next_of r < r.items.count → goes (item_at items r.items (next_of r)) ≡ true
      → Q (record { items = removed items r.items (next_of r); next = next_of r }))
      → (next_of r < r.items.count → Q (record { items = r.items; next = next_of r + 1 })) → Q (look items goes r)
  unfolding look look_at
  look_cases Q r same drops moves =
      by_test (eqb r.items.count 0)
      (λ none. rw (none, look) same)
      (λ some.
      let below : next_of r < r.items.count = wrapped_below r.next r.items.count (omega (arith, eqb-false r.items.count 0 some)) in
      by_test (goes (item_at items r.items (next_of r)))
      (λ passes. rw (some, look, passes, look_at) (drops below passes))
      (λ fails. rw (some, look, fails, look_at) (moves below)))

  -- What a removal of an item that goes keeps, a sweep keeps.
  abbrev pub KeptByRemovals : (Held A → Type 0) → Type 0
  KeptByRemovals Q = (h : Held A) (p : ℕ) → p < h.count → goes (item_at items h p) ≡ true → Q h → Q (removed items h p)

  pub sweep_keeps : (Q : Held A → Type 0) → KeptByRemovals Q → (n : ℕ) (r : Round A) → Q r.items → Q (sweep items goes n r).items
  unfolding sweep
  sweep_keeps Q kept zero r q = q
  sweep_keeps Q kept (suc n) r q =
      sweep_keeps Q kept n (look items goes r) (look_cases (λ t. Q t.items) r q (λ below passes. kept r.items (next_of r) below passes q) (λ below. q))

  -- The room stays, and there are no more items than there were.
  pub sweep_length : (n : ℕ) (r : Round A) → length (sweep items goes n r).items.places ≡ length r.items.places
  sweep_length n r = sweep_keeps (λ h. length h.places ≡ length r.items.places) (λ h p below passes same. removed_length items h p ∙ same) n r refl

  pub sweep_count : (n : ℕ) (r : Round A) → (sweep items goes n r).items.count ≤ r.items.count
  sweep_count n r = sweep_keeps (λ h. h.count ≤ r.items.count) (λ h p below passes fewer. omega (arith, removed_count items h p)) n r (omega arith)

  -- Sound items stay so.
  pub sweep_sound : (n : ℕ) (r : Round A) → Sound r.items → Sound (sweep items goes n r).items
  sweep_sound n r s = sweep_keeps Sound (λ h p below passes t. removed_sound items h p t) n r s

  -- Complete items stay so, and the finding keeps its kind.
  pub sweep_complete : (n : ℕ) (r : Round A) → Sound r.items → Complete items r.items → Complete items (sweep items goes n r).items
  sweep_complete n r sound complete =
      (sweep_keeps (λ h. Sound h × Complete items h) (λ h p below passes q. (removed_sound items h p q.0, removed_complete items h q.0 q.1 p below))
      n r (sound, complete)).1

  pub sweep_kind : (n : ℕ) (r : Round A) → kind_of (sweep items goes n r).items.finding ≡ kind_of r.items.finding
  sweep_kind n r = sweep_keeps (λ h. kind_of h.finding ≡ kind_of r.items.finding) (λ h p below passes same. removed_kind items h p ∙ same) n r refl

  -- The next look is at a place up to the count, unless there was no look.
  pub sweep_next : (n : ℕ) (r : Round A) → (sweep items goes n r).next ≤ max r.next r.items.count
  unfolding sweep
  sweep_next zero r = omega arith
  sweep_next (suc n) r =
      let look_next : (look items goes r).next ≤ max r.next r.items.count =
      look_cases (λ t. t.next ≤ max r.next r.items.count) r (omega arith) (λ below passes. omega arith) (λ below. omega arith) in
      omega (arith, sweep_next n (look items goes r), sweep_count 1 r)

  -- A sweep never adds to a sum of weights, and where an item that goes weighs nothing it takes nothing away.
  module _ (w : A → ℕ) (n : ℕ) (r : Round A) (sound : Sound r.items) where
    pub sweep_never_adds : total items w (sweep items goes n r).items ≤ total items w r.items
    sweep_never_adds =
        (sweep_keeps (λ h. Sound h × (total items w h ≤ total items w r.items))
        (λ h p below passes q. (removed_sound items h p q.0, omega (arith, q.1, total_removed items w h p q.0 below))) n r (sound, omega arith)).1

    pub sweep_keeps_total : ((x : A) → goes x ≡ true → w x ≡ 0) → total items w (sweep items goes n r).items ≡ total items w r.items
    sweep_keeps_total weightless =
        (sweep_keeps (λ h. Sound h × (total items w h ≡ total items w r.items))
        (λ h p below passes q. (removed_sound items h p q.0, omega (arith, q.1, total_removed items w h p q.0 below, weightless _ passes)))
        n r (sound, refl)).1

-- A sweep by looks over lent words, in which a state lies (`view`): `all n` makes n looks, each of them `one`. Where no item is left a look changes
-- nothing, and words that are lent stay so after a look.
pub record ByLooks {S : Type 0} (Lent : List ℕ → Type 0) (view : List ℕ → S) (all : ℕ → S → S) (one : S → S) (count : S → ℕ) : Type 0 where
  pub none_left : (s : S) → all 0 s ≡ s
  pub one_more : (n : ℕ) (s : S) → all (suc n) s ≡ all n (one s)
  pub no_item : (s : S) → count s ≡ 0 → one s ≡ s
  pub stay_lent : {ws ws' : List ℕ} → Lent ws → length ws' ≡ length ws → view ws' ≡ one (view ws) → Lent ws'

-- A loop that makes the looks one by one: the words are lent, as long as at the start, and the looks left, made from here, give what all of them give from the
-- start. Then its steps.
pub record Sweeping {S : Type 0} (Lent : List ℕ → Type 0) (view : List ℕ → S) (all : ℕ → S → S) (budget : ℕ) (start : List ℕ) (left : ℕ)
    (ws : List ℕ) : Type 0 where
  pub lent : Lent ws
  pub long : length ws ≡ length start
  pub same : all left (view ws) ≡ all budget (view start)

pub sweep_begins : {S : Type 0} {Lent : List ℕ → Type 0} {view : List ℕ → S} {all : ℕ → S → S} {n : ℕ} {ws : List ℕ} → Lent ws
    → Sweeping Lent view all n ws n ws
sweep_begins lent = record { lent = lent; long = refl; same = refl }

module _ {S : Type 0} {Lent : List ℕ → Type 0} {view : List ℕ → S} {all : ℕ → S → S} {one : S → S} {count : S → ℕ} (looks : ByLooks Lent view all one count)
    {budget left : ℕ} {start ws : List ℕ} (sweeping : Sweeping Lent view all budget start left ws) where
  -- A look was made.
  pub sweep_goes_on : {ws' : List ℕ} → 0 < left → length ws' ≡ length ws → view ws' ≡ one (view ws) → Sweeping Lent view all budget start (left - 1) ws'
  sweep_goes_on some kept looked =
      let e : left ≡ suc (left - 1) = omega arith in
      record {
        lent = looks.stay_lent sweeping.lent kept looked;
        long = kept ∙ sweeping.long;
        same = rw (looked, ← looks.one_more (left - 1) (view ws), ← e) sweeping.same;
      }

  -- No look is left.
  pub sweep_ends : left ≤ 0 → view ws ≡ all budget (view start)
  sweep_ends none = let e : left ≡ 0 = omega arith in rw (e, looks.none_left (view ws)) at sweeping.same

  -- No item is left.
  pub sweep_stops : count (view ws) ≡ 0 → view ws ≡ all budget (view start)
  sweep_stops none = sym (unchanged left) ∙ sweeping.same
    where
      unchanged : (n : ℕ) → all n (view ws) ≡ view ws
      unchanged zero = looks.none_left (view ws)
      unchanged (suc n) = looks.one_more n (view ws) ∙ rw (looks.no_item (view ws) none) (unchanged n)
