-- Held items after an item is stored, appended or removed: what stands where, and what becomes of a sum of weights.
use Prim.Native.Nat.{ℕ, suc, ◌+◌, ◌-◌, ◌<◌}
use mathlib.Core.Path.{◌≡◌, refl, ap, sym, ◌∙◌}
use native.Mathlib.Numerals.{add-one}
use native.Mathlib.Omega.{arith}
use lib.ListN.{length, set, length-set}
use lib.Dec.{ltb}
use lib.Seq.{get_or-set_same, get_or-set_other}
use borrow.Author.Tests.{ltb-true}
use Rattle.arith.proofs.Cases.{by_test, by_eq}
use Rattle.rows.specs.Places.{sum}
use Rattle.held.specs.Held.{Held, Sound, Items, wrapped, item_at, removed, total, appended, stored}
use Rattle.rows.proofs.SumLaws.{sum_same, sum_changed}

-- A hand, sweep or cursor, as it is read, stands at an item.
pub wrapped_below : (i count : ℕ) → 0 < count → wrapped i count < count
wrapped_below i count some = by_test (ltb i count) (λ t. rw t (ltb-true _ _ t)) (λ t. rw t some)

-- A stored item leaves held items sound.
pub stored_sound : {A : Type 0} (h : Held A) (i : ℕ) (x : A) → Sound h → Sound (stored h i x)
stored_sound h i x s = record { room = simp length-set s.room; count_fits = simp length-set s.count_fits }

module _ {A : Type 0} (items : Items A) where
  -- So does an appended one, where there is room.
  pub appended_sound : (h : Held A) (x : A) → h.count < length h.places → Sound (appended items h x)
  appended_sound h x below = record { room = simp length-set (omega arith); count_fits = simp length-set (omega arith) }

  pub item_stored : (h : Held A) (i : ℕ) (x : A) → i < length h.places → item_at items (stored h i x) i ≡ x
  item_stored h i x b = get_or-set_same h.places i x items.free b

  pub item_stored_other : (h : Held A) (i : ℕ) (x : A) (j : ℕ) → (j ≡ i → ⊥) → item_at items (stored h i x) j ≡ item_at items h j
  item_stored_other h i x j other = get_or-set_other h.places i j x items.free other

  pub item_appended : (h : Held A) (x : A) → h.count < length h.places → item_at items (appended items h x) h.count ≡ x
  item_appended h x b = get_or-set_same h.places h.count x items.free b

  pub item_appended_other : (h : Held A) (x : A) (j : ℕ) → j < h.count → item_at items (appended items h x) j ≡ item_at items h j
  item_appended_other h x j b = get_or-set_other h.places h.count j x items.free (λ e. omega arith)

  -- After a removal the last item stands in the gap and the others where they stood: one item less, in as many places.
  pub item_moved : (h : Held A) (p : ℕ) → Sound h → p < h.count - 1 → item_at items (removed items h p) p ≡ item_at items h (h.count - 1)
  unfolding removed
  item_moved h p s b =
      get_or-set_other (set h.places p (item_at items h (h.count - 1))) (h.count - 1) p items.free items.free (λ e. omega arith)
      ∙ get_or-set_same h.places p (item_at items h (h.count - 1)) items.free (omega (arith, s.count_fits))

  pub item_kept : (h : Held A) (p i : ℕ) → i < h.count - 1 → (i ≡ p → ⊥) → item_at items (removed items h p) i ≡ item_at items h i
  unfolding removed
  item_kept h p i b other =
      get_or-set_other (set h.places p (item_at items h (h.count - 1))) (h.count - 1) i items.free items.free (λ e. omega arith)
      ∙ get_or-set_other h.places p i (item_at items h (h.count - 1)) items.free other

  pub removed_count : (h : Held A) (p : ℕ) → (removed items h p).count ≡ h.count - 1
  unfolding removed
  removed_count h p = refl

  pub removed_length : (h : Held A) (p : ℕ) → length (removed items h p).places ≡ length h.places
  unfolding removed
  removed_length h p = simp length-set

  pub removed_sound : (h : Held A) (p : ℕ) → Sound h → Sound (removed items h p)
  removed_sound h p s =
      record { room = omega (arith, s.room, removed_length h p); count_fits = omega (arith, s.count_fits, removed_count h p, removed_length h p) }

  -- The weights: a stored item changes its own, an appended one adds its own, a removed one takes its own away.
  pub total_stored : (w : A → ℕ) (h : Held A) (i : ℕ) (x : A) → Sound h → i < h.count
      → total items w (stored h i x) + w (item_at items h i) ≡ total items w h + w x
  total_stored w h i x s b =
      rw (item_stored h i x (omega (arith, s.count_fits))) at
      (sum_changed h.count (λ j. w (item_at items (stored h i x) j)) (λ j. w (item_at items h j)) i b
      (λ j below other. ap w (item_stored_other h i x j other)))

  pub total_appended : (w : A → ℕ) (h : Held A) (x : A) → h.count < length h.places
      → total items w (appended items h x) ≡ total items w h + w x
  unfolding sum
  total_appended w h x b =
      rw (add-one, sum, item_appended h x b)
      (ap (λ (n : ℕ). n + w x)
      (sum_same h.count (λ j. w (item_at items (appended items h x) j)) (λ j. w (item_at items h j)) (λ j below. ap w (item_appended_other h x j below))))

  total_but_last : (w : A → ℕ) (h : Held A) → 0 < h.count
      → sum (h.count - 1) (λ j. w (item_at items h j)) + w (item_at items h (h.count - 1)) ≡ total items w h
  unfolding sum
  total_but_last w h b = let e : h.count ≡ suc (h.count - 1) = omega arith in sym (ap (λ (n : ℕ). sum n (λ j. w (item_at items h j))) e)

  pub total_removed : (w : A → ℕ) (h : Held A) (p : ℕ) → Sound h → p < h.count
      → total items w (removed items h p) + w (item_at items h p) ≡ total items w h
  total_removed w h p s b =
      let before : ℕ → ℕ = λ j. w (item_at items h j) in
      let after : ℕ → ℕ = λ j. w (item_at items (removed items h p) j) in
      rw (removed_count h p)
      (by_eq p (h.count - 1)
      (λ last. omega (
        arith,
        total_but_last w h (omega arith),
        ap before last,
        sum_same (h.count - 1) after before (λ j below. ap w (item_kept h p j below (λ e. omega arith))),
      ))
      (λ inner.
      let below : p < h.count - 1 = omega (arith, inner) in
      omega (
        arith,
        total_but_last w h (omega arith),
        ap w (item_moved h p s below),
        sum_changed (h.count - 1) after before p below (λ j b' other. ap w (item_kept h p j b' other)),
      )))
