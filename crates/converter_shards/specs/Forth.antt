-- From document 01's layout to the present one, and back, for one shard. Forth: slots, debts, hand, sweep and cursor stay as they stand, and each index is
-- built by adding the items in order. The counts of tries turned away start at 0, since a slot of document 01 is read with that count (`slot_of01`). Back: the
-- same without the indexes and without these counts.
use Rattle.std.specs.Prelude.{ℕ, zero, suc, List, replicate}
use Rattle.index.specs.Walk as Index
use Rattle.index.specs.Layout.{places_for}
use Rattle.held.specs.Held.{Held, Items, by_index, hash_at, found_otherwise}
use Rattle.ledger.specs.Model as Debts
use Rattle.shard_map.specs.Model.{Shard, slot_items, in_place_order, uncounted}

-- The first n items are added to an index, in order.
unfoldable pub added_up_to : (ℕ → ℕ) → ℕ → List ℕ → List ℕ
added_up_to hash zero ix = ix
added_up_to hash (suc n) ix = Index.add (added_up_to hash n ix) (hash n) n

-- The index of held items, built from empty places; and the items found by it.
abbrev pub built_index : {A : Type 0} → Items A → ℕ → Held A → List ℕ
built_index items cap h = added_up_to (hash_at items h) h.count (replicate (places_for cap) 0)

abbrev pub with_index : {A : Type 0} → Items A → ℕ → Held A → Held A
with_index items cap h = found_otherwise h (by_index (built_index items cap h))

-- Forth and back.
unfoldable pub forth : ℕ → Shard → Shard
forth cap s = record {
  slots = with_index slot_items cap s.slots;
  hand = s.hand;
  sweep = s.sweep;
  ledger = Debts.with_debts s.ledger (with_index Debts.debt_items cap s.ledger.debts);
}

abbrev pub back : Shard → Shard
back s = in_place_order (uncounted s)
