-- `remove_at` is the model's removal: its calls make the same stores, in the same order, and each call says what it stores.
use Prim.Native.Nat.{◌≤◌, ◌<◌}
use native.Mathlib.Omega.{arith}
use mathlib.Core.Path.{ap, ◌∙◌}
use Rattle.shard_map.specs.Model.{Shard}
use Rattle.shard_map.proofs.ModelLaws.{intact_cap, remove_by_stores}
use borrow.Author.Rules.{rules}
use Rattle.shard_map.proofs.remove_at.Goals as goal

-- The index does not change how many slots there are: one stands at the place, and no more than the cap are held.
held : (c : goal.After-count-last) → (c.args.pos < c.count-last.result) × (c.count-last.result ≤ c.args.cap)
held c = let pre' = c.requires in
    let same = c.count-last.ensures ∙ ap (λ (s : Shard). s.slots.count) c.remove_from_index.ensures in
    (omega (arith, same, pre'.1), omega (arith, same, pre'.0.sound.count_fits, intact_cap pre'.0))

-- The index does not change how many slots there are: one stands at the place, and no more than the cap are held.
held_2 : (c : goal.After-put-arg-1) → (c.args.pos < c.count-last.result) × (c.count-last.result ≤ c.args.cap)
held_2 c = let pre' = c.requires in
    let same = c.count-last.ensures ∙ ap (λ (s : Shard). s.slots.count) c.remove_from_index.ensures in
    (omega (arith, same, pre'.1), omega (arith, same, pre'.0.sound.count_fits, intact_cap pre'.0))

-- The index does not change how many slots there are: one stands at the place, and no more than the cap are held.
held_3 : (c : goal.After-free_slot) → (c.args.pos < c.count-last.result) × (c.count-last.result ≤ c.args.cap)
held_3 c = let pre' = c.requires in
    let same = c.count-last.ensures ∙ ap (λ (s : Shard). s.slots.count) c.remove_from_index.ensures in
    (omega (arith, same, pre'.1), omega (arith, same, pre'.0.sound.count_fits, intact_cap pre'.0))

pub overflow_sub-last : goal.overflow_sub-last
overflow_sub-last c = omega (arith, (held c).0)

pub load-moved-requires : goal.load-moved-requires
load-moved-requires c = let h = held c in search rules

pub put-requires : goal.put-requires
put-requires c = let h = held_2 c in search rules

pub put-requires-2 : goal.put-requires-2
put-requires-2 c = let h = held_3 c in
    (c.put.auto.ws ∙ c.remove_from_index.auto.ws ∙ c.requires.0.size, search rules)

pub set_count-requires : goal.set_count-requires
set_count-requires c = c.put-2.auto.ws ∙ c.put.auto.ws ∙ c.remove_from_index.auto.ws ∙ c.requires.0.size

pub returns : goal.returns
returns c = let stores = remove_by_stores _ _ in
    rw (
      c.set_count.ensures,
      c.put-2.ensures,
      c.put.ensures,
      c.free_slot.ensures,
      c.load-moved.ensures,
      c.count-last.ensures,
      c.remove_from_index.ensures,
    )
    stores
