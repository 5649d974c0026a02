-- Items of which no two have one identity. A step that adds no identity leaves held items that come from those before: so no two have one identity, and an
-- identity that none had none has. Such items are found where they are found in place order.
use Prim.Native.Nat.{ℕ, ◌-◌, ◌≤◌, ◌<◌}
use mathlib.Core.Path.{◌≡◌, refl, sym, ap, ◌∙◌}
use mathlib.Core.Bool.{Bool, true, cond}
use native.Mathlib.Omega.{arith}
use lib.Dec.{eqb}
use lib.ListN.{length, length-set}
use borrow.Author.Tests.{eq-eqb, ne_eqb}
use Rattle.arith.proofs.Cases.{by_eq}
use Rattle.held.specs.Held.{Held, Sound, Items, item_at, position, appended, removed, stored, in_place_order, Complete}
use Rattle.held.specs.Round.{Round, sweep}
use Rattle.held.proofs.HeldLaws.{item_stored, item_stored_other, item_appended, item_appended_other, item_moved, item_kept, removed_count}
use Rattle.held.proofs.HeldLaws.{stored_sound, appended_sound, removed_sound}
use Rattle.held.proofs.FindingLaws.{position_in_place_order, stored_complete, appended_complete, removed_complete}
use Rattle.held.proofs.RoundLaws.{sweep_keeps}

-- `identity` says what an item is known by.
module _ {A I : Type 0} (items : Items A) (identity : A → I) where
  -- No two items have one identity.
  abbrev pub Single : Held A → Type 0
  Single h = (i j : ℕ) → i < h.count → j < h.count → identity (item_at items h i) ≡ identity (item_at items h j) → i ≡ j

  -- No item has the identity that is given.
  abbrev pub Lacks : I → Held A → Type 0
  Lacks key h = (i : ℕ) → i < h.count → identity (item_at items h i) ≡ key → ⊥

  -- Each item of the second has the identity of an item of the first, and no two have that of one.
  pub record ComesFrom (h g : Held A) : Type 0 where
    pub origin : ℕ → ℕ
    pub below : (i : ℕ) → i < g.count → origin i < h.count
    pub same : (i : ℕ) → i < g.count → identity (item_at items g i) ≡ identity (item_at items h (origin i))
    pub apart : (i j : ℕ) → i < g.count → j < g.count → origin i ≡ origin j → i ≡ j

-- So what holds of the first holds of the second.
module _ {A I : Type 0} (items : Items A) (identity : A → I) {h g : Held A} (from : ComesFrom items identity h g) where
  pub single_stays : Single items identity h → Single items identity g
  single_stays single i j below_i below_j same =
      from.apart i j below_i below_j
      (single (from.origin i) (from.origin j) (from.below i below_i) (from.below j below_j) (sym (from.same i below_i) ∙ same ∙ from.same j below_j))

  pub lacks_stays : (key : I) → Lacks items identity key h → Lacks items identity key g
  lacks_stays key lacks i below own = lacks (from.origin i) (from.below i below) (sym (from.same i below) ∙ own)

module _ {A I : Type 0} (items : Items A) (identity : A → I) where
  -- Two steps, one after the other.
  pub comes_from_trans : {h g f : Held A} → ComesFrom items identity h g → ComesFrom items identity g f → ComesFrom items identity h f
  comes_from_trans first second = record {
    origin = λ i. first.origin (second.origin i);
    below = λ i below. first.below (second.origin i) (second.below i below);
    same = λ i below. second.same i below ∙ first.same (second.origin i) (second.below i below);
    apart = λ i j below_i below_j e.
        second.apart i j below_i below_j (first.apart (second.origin i) (second.origin j) (second.below i below_i) (second.below j below_j) e);
  }

  -- As many items, of the same identities in the same places.
  pub same_identities : (h g : Held A) → g.count ≡ h.count → ((i : ℕ) → i < h.count → identity (item_at items g i) ≡ identity (item_at items h i))
      → ComesFrom items identity h g
  same_identities h g counted same = record {
    origin = λ i. i;
    below = λ i below. omega arith;
    same = λ i below. same i (omega arith);
    apart = λ i j below_i below_j e. e;
  }

  pub comes_from_refl : (h : Held A) → ComesFrom items identity h h
  comes_from_refl h = same_identities h h refl (λ i below. refl)

  -- An item of the same identity is stored.
  pub stored_comes_from : (h : Held A) (p : ℕ) (x : A) → p < length h.places → identity x ≡ identity (item_at items h p)
      → ComesFrom items identity h (stored h p x)
  stored_comes_from h p x below same =
      same_identities h (stored h p x) refl (λ i inner.
      by_eq i p
      (λ e. rw (e, item_stored items h p x below) same)
      (λ other. ap identity (item_stored_other items h p x i other)))

  -- An item is removed: the one in its place was the last.
  pub removed_comes_from : (h : Held A) (p : ℕ) → Sound h → ComesFrom items identity h (removed items h p)
  removed_comes_from h p sound =
      let origin : ℕ → ℕ = λ i. cond (eqb i p) (h.count - 1) i in
      let moved : (i : ℕ) → i ≡ p → origin i ≡ h.count - 1 = λ i e. rw (eq-eqb _ _ e) in
      let kept : (i : ℕ) → (i ≡ p → ⊥) → origin i ≡ i = λ i other. rw (ne_eqb _ _ other) in
      let left = removed_count items h p in
      record {
        origin = origin;
        below = λ i below. by_eq i p (λ e. omega (arith, moved i e)) (λ other. omega (arith, kept i other));
        same = λ i below.
            by_eq i p
            (λ e. rw (moved i e, e) (ap identity (item_moved items h p sound (omega arith))))
            (λ other. rw (kept i other) (ap identity (item_kept items h p i (omega arith) other)));
        apart = λ i j below_i below_j e.
            by_eq i p
            (λ at_i. by_eq j p (λ at_j. omega arith) (λ other. omega (arith, moved i at_i, kept j other)))
            (λ other. by_eq j p (λ at_j. omega (arith, kept i other, moved j at_j)) (λ another. omega (arith, kept i other, kept j another)));
      }

  -- A sweep removes items.
  pub sweep_comes_from : (goes : A → Bool) (n : ℕ) (r : Round A) → Sound r.items → ComesFrom items identity r.items (sweep items goes n r).items
  sweep_comes_from goes n r sound =
      (sweep_keeps items goes (λ h. Sound h × ComesFrom items identity r.items h)
      (λ h p below passes q. (removed_sound items h p q.0, comes_from_trans q.1 (removed_comes_from h p q.0)))
      n r (sound, comes_from_refl r.items)).1

  -- An item whose identity no item has comes last.
  pub appended_single : (h : Held A) (x : A) → h.count < length h.places → Lacks items identity (identity x) h → Single items identity h
      → Single items identity (appended items h x)
  appended_single h x room lacks single i j below_i below_j same =
      by_eq i h.count
      (λ last_i. by_eq j h.count (λ last_j. omega arith) (λ other.
      let inner : j < h.count = omega (arith, other) in
      absurd (lacks j inner (sym (old j inner) ∙ sym same ∙ new i last_i))))
      (λ other.
      let inner : i < h.count = omega (arith, other) in
      by_eq j h.count
      (λ last_j. absurd (lacks i inner (sym (old i inner) ∙ same ∙ new j last_j)))
      (λ another.
      let inner' : j < h.count = omega (arith, another) in
      single i j inner inner' (sym (old i inner) ∙ same ∙ old j inner')))
    where
      old : (k : ℕ) → k < h.count → identity (item_at items (appended items h x) k) ≡ identity (item_at items h k)
      old k inner = ap identity (item_appended_other items h x k inner)

      new : (k : ℕ) → k ≡ h.count → identity (item_at items (appended items h x) k) ≡ identity x
      new k last = rw last (ap identity (item_appended items h x room))

-- In every place past the items stands what stands in a free place.
abbrev pub FreePast : {A : Type 0} → Items A → Held A → Type 0
FreePast items h = (i : ℕ) → h.count ≤ i → item_at items h i ≡ items.free

module _ {A : Type 0} (items : Items A) (h : Held A) (free : FreePast items h) where
  stored_free_past : (p : ℕ) (x : A) → p < h.count → FreePast items (stored h p x)
  stored_free_past p x below i past = item_stored_other items h p x i (λ e. omega arith) ∙ free i past

  appended_free_past : (x : A) → FreePast items (appended items h x)
  appended_free_past x i past = item_stored_other items h h.count x i (λ e. omega arith) ∙ free i (omega arith)

  removed_free_past : Sound h → (p : ℕ) → p < h.count → FreePast items (removed items h p)
  unfolding removed
  removed_free_past sound p below i past =
      let last : ℕ = h.count - 1 in
      let moved : Held A = stored h p (item_at items h last) in
      by_eq i last
      (λ at_last. rw at_last (item_stored items moved last items.free (simp length-set (omega (arith, sound.count_fits)))))
      (λ other.
      item_stored_other items moved last items.free i other ∙ item_stored_other items h p (item_at items h last) i (λ e. omega (arith, other))
      ∙ free i (omega (arith, other)))

-- Lookup finds each item: it misses none, no two have one identity, and past the items every place is free.
pub record FindsEach {A I : Type 0} (items : Items A) (identity : A → I) (h : Held A) : Type 0 where
  pub sound : Sound h
  pub complete : Complete items h
  pub single : Single items identity h
  pub free_past : FreePast items h

-- So it does where no item is held.
module _ {A I : Type 0} (items : Items A) (identity : A → I) (h : Held A) where
  pub none_finds_each : Sound h → Complete items h → h.count ≡ 0 → ((i : ℕ) → item_at items h i ≡ items.free) → FindsEach items identity h
  none_finds_each sound complete none free = record {
    sound = sound;
    complete = complete;
    single = λ i j below_i below_j same. omega arith;
    free_past = λ i past. free i;
  }

module _ {A I : Type 0} (items : Items A) (identity : A → I) (h : Held A) (each : FindsEach items identity h) where
  -- Items are then found where they are found in place order, by a test that only items of one hash and of one identity pass.
  pub found_in_place_order : (hash : ℕ) (key : I) (test : A → Bool) → ((x : A) → test x ≡ true → items.hash x ≡ hash)
      → ((x : A) → test x ≡ true → identity x ≡ key)
      → position items (in_place_order h) hash test ≡ position items h hash test
  found_in_place_order hash key test own known =
      sym (position_in_place_order items h each.complete hash test own
      (λ i j below_i below_j passes_i passes_j. each.single i j below_i below_j (known _ passes_i ∙ sym (known _ passes_j))))

  -- Every step leaves such items; an item is appended only where none has its identity.
  pub stored_finds_each : (p : ℕ) (x : A) → p < h.count → items.hash x ≡ items.hash (item_at items h p) → identity x ≡ identity (item_at items h p)
      → FindsEach items identity (stored h p x)
  stored_finds_each p x below hash same =
      let inside : p < length h.places = omega (arith, each.sound.count_fits) in
      record {
        sound = stored_sound h p x each.sound;
        complete = stored_complete items h each.complete p x inside hash;
        single = single_stays items identity (stored_comes_from items identity h p x inside same) each.single;
        free_past = stored_free_past items h each.free_past p x below;
      }

  pub appended_finds_each : (x : A) → h.count < length h.places → Lacks items identity (identity x) h → FindsEach items identity (appended items h x)
  appended_finds_each x room lacks = record {
    sound = appended_sound items h x room;
    complete = appended_complete items h each.complete x room;
    single = appended_single items identity h x room lacks each.single;
    free_past = appended_free_past items h each.free_past x;
  }

  pub removed_finds_each : (p : ℕ) → p < h.count → FindsEach items identity (removed items h p)
  removed_finds_each p below = record {
    sound = removed_sound items h p each.sound;
    complete = removed_complete items h each.sound each.complete p below;
    single = single_stays items identity (removed_comes_from items identity h p each.sound) each.single;
    free_past = removed_free_past items h each.free_past each.sound p below;
  }

-- So does a sweep.
pub sweep_finds_each : {A I : Type 0} (items : Items A) (identity : A → I) (goes : A → Bool) (n : ℕ) (r : Round A) → FindsEach items identity r.items
    → FindsEach items identity (sweep items goes n r).items
sweep_finds_each items identity goes n r each =
    sweep_keeps items goes (FindsEach items identity) (λ h p below passes found. removed_finds_each items identity h found p below) n r each
