-- The words past the counts are all 0 just where past the items every place is free.
use Prim.Native.Nat.{ℕ, zero, suc, ◌+◌, ◌-◌}
use native.Mathlib.Omega.{arith}
use mathlib.Core.Path.{◌≡◌, refl, sym, ◌∙◌}
use mathlib.Core.Bool.{true, false, cond}
use mathlib.Core.List.{List, [], ◌∷◌, ◌++◌, map}
use lib.ListN.{length, get_or, drop}
use lib.Seq.{get_or-drop}
use Rattle.arith.proofs.Cases.{by_test, by_eq}
use Rattle.rows.specs.Rows.{unrow}
use Rattle.held.specs.Held.{Held, Items}
use Rattle.held.proofs.SingleLaws.{FreePast}
use Rattle.slot.specs.declared.Slot.{Slot}
use Rattle.ledger.specs.declared.Debt.{Debt}
use Rattle.ledger.specs.Model.{debt_items, no_debt}
use Rattle.shard_map.specs.Model.{Shard, slot_items, no_slot}
use Rattle.shard_map.specs.Layout.{slot_words}
use Rattle.converter_shards.specs.Layout01.{slot_words01, debt_words01}
use Rattle.converter_shards.specs.Checks.{any_below, is_used, any_used, used_past, used_past_by, shard_used_past, shard_used_past01}
use Rattle.converter_shards.proofs.CheckLaws.{both_ways, any_first, used_of}

-- Words one by one.
pub used_next : (w : ℕ) (ws : List ℕ) → any_used (w ∷ ws) ≡ cond (is_used w) true (any_used ws)
unfolding any_used
used_next w ws = any_first (length ws) (λ k. is_used (get_or (w ∷ ws) k 0))

next_unused : (w : ℕ) (ws : List ℕ) → any_used (w ∷ ws) ≡ false → (w ≡ 0) × (any_used ws ≡ false)
next_unused w ws none =
    let test : cond (is_used w) true (any_used ws) ≡ false = sym (used_next w ws) ∙ none in
    by_eq w 0
    (λ zero. (zero, rw zero at test))
    (λ some. both_ways (rw (used_of w some)) test)

none_used : any_used [] ≡ false
unfolding any_used any_below
none_used = refl

-- The words of a slot and of a debt.
slot_unused : (x : Slot) (rest : List ℕ) → any_used (slot_words x ++ rest) ≡ false → (x ≡ no_slot) × (any_used rest ≡ false)
slot_unused x rest none =
    let a = next_unused x.hash _ none in
    let b = next_unused x.key _ a.1 in
    let c = next_unused x.bucket.shortfall _ b.1 in
    let d = next_unused x.bucket.stamp.0 _ c.1 in
    let e = next_unused x.mark _ d.1 in
    let f = next_unused x.seen.0 _ e.1 in
    let g = next_unused x.turned_away rest f.1 in (
      λ j. record {
        hash = a.0 j;
        key = b.0 j;
        bucket = record { shortfall = c.0 j; stamp = record { 0 = d.0 j } };
        mark = e.0 j;
        seen = record { 0 = f.0 j };
        turned_away = g.0 j;
      },
      g.1,
    )

slot_blank : (rest : List ℕ) → any_used (slot_words no_slot ++ rest) ≡ any_used rest
slot_blank rest = simp used_next

slot_blank01 : (rest : List ℕ) → any_used (slot_words01 no_slot ++ rest) ≡ any_used rest
slot_blank01 rest = simp used_next

debt_unused : (x : Debt) (rest : List ℕ) → any_used (debt_words01 x ++ rest) ≡ false → (x ≡ no_debt) × (any_used rest ≡ false)
debt_unused x rest none =
    let a = next_unused x.hash _ none in
    let b = next_unused x.settles.0 rest a.1 in
    (λ j. record { hash = a.0 j; settles = record { 0 = b.0 j } }, b.1)

debt_blank : (rest : List ℕ) → any_used (debt_words01 no_debt ++ rest) ≡ any_used rest
debt_blank rest = simp used_next

-- Items of which no word is used are free.
module _ {A : Type 0} (items : Items A) (write : A → List ℕ)
    (unused : (x : A) (rest : List ℕ) → any_used (write x ++ rest) ≡ false → (x ≡ items.free) × (any_used rest ≡ false)) where
  all_free : (l : List A) → any_used (unrow (map write l)) ≡ false → (i : ℕ) → get_or l i items.free ≡ items.free
  unfolding unrow
  all_free [] none i = refl
  all_free (x ∷ l) none zero = (unused x (unrow (map write l)) none).0
  all_free (x ∷ l) none (suc i) = all_free l (unused x (unrow (map write l)) none).1 i

  past_is_free : (h : Held A) → used_past write h ≡ false → FreePast items h
  unfolding used_past
  past_is_free h none i past =
      let there : h.count + (i - h.count) ≡ i = omega arith in
      rw there at (sym (get_or-drop h.count h.places (i - h.count) items.free) ∙ all_free (drop h.count h.places) none (i - h.count))

-- And free items have no word that is used.
module _ {A : Type 0} (items : Items A) (write : A → List ℕ) (blank : (rest : List ℕ) → any_used (write items.free ++ rest) ≡ any_used rest) where
  none_of_free : (l : List A) → ((i : ℕ) → get_or l i items.free ≡ items.free) → any_used (unrow (map write l)) ≡ false
  unfolding unrow
  none_of_free [] free = none_used
  none_of_free (x ∷ l) free =
      let first : x ≡ items.free = free 0 in
      rw (first, blank (unrow (map write l))) (none_of_free l (λ i. free (suc i)))

  free_is_unused : (h : Held A) → FreePast items h → used_past write h ≡ false
  unfolding used_past
  free_is_unused h free =
      none_of_free (drop h.count h.places) (λ i. get_or-drop h.count h.places i items.free ∙ free (h.count + i) (omega arith))

-- A shard.
module _ (s : Shard) where
  pub past_slots_are_free : shard_used_past s ≡ false → FreePast slot_items s.slots
  unfolding used_past_by
  past_slots_are_free none =
      past_is_free slot_items slot_words slot_unused s.slots
      (by_test (used_past slot_words s.slots) (λ t. both_ways (rw t) none) (λ t. t))

  pub past_debts_are_free : shard_used_past s ≡ false → FreePast debt_items s.ledger.debts
  unfolding used_past_by
  past_debts_are_free none =
      past_is_free debt_items debt_words01 debt_unused s.ledger.debts
      (by_test (used_past slot_words s.slots) (λ t. both_ways (rw t) none) (λ t. rw t at none))

  pub free_shard_is_unused : FreePast slot_items s.slots → FreePast debt_items s.ledger.debts → shard_used_past s ≡ false
  unfolding used_past_by
  free_shard_is_unused slots debts =
      rw (free_is_unused slot_items slot_words slot_blank s.slots slots) (free_is_unused debt_items debt_words01 debt_blank s.ledger.debts debts)

  -- So it is with the words of document 01.
  pub free_shard_is_unused01 : FreePast slot_items s.slots → FreePast debt_items s.ledger.debts → shard_used_past01 s ≡ false
  unfolding used_past_by
  free_shard_is_unused01 slots debts =
      rw (free_is_unused slot_items slot_words01 slot_blank01 s.slots slots) (free_is_unused debt_items debt_words01 debt_blank s.ledger.debts debts)
