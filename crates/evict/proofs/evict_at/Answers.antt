-- `evict_at` removes the slot and stores the hand, as the definition does.
use native.Mathlib.Omega.{arith}
use Rattle.shard_map.proofs.ModelLaws.{intact_below}
use Rattle.evict.proofs.evict_at.Goals as goal

pub overflow_add-pos : goal.overflow_add-pos
overflow_add-pos c = let pre' = c.requires in
    omega (arith, intact_below pre'.0 pre'.1)

pub returns : goal.returns
returns c = simp (c.set_hand.ensures, c.remove_at.ensures)
