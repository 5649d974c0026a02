-- `idle_look` does what the definition does at the sweep's place, for a slot that may go and for one that stays.
use Prim.Native.Nat.{◌<◌}
use mathlib.Core.Path.{◌≡◌, sym, ◌∙◌}
use native.Mathlib.Omega.{arith}
use Rattle.shard_map.specs.Layout.{shard}
use Rattle.shard_map.specs.Model.{slot_at, sweep_of, reclaimable}
use Rattle.shard_map.proofs.ModelLaws.{intact_sweep, after_sweep, idle_look_goes, idle_look_stays}
use Rattle.shard_map.proofs.idle_look.Goals as goal

held : (c : goal.After-sweep-sweep) → let a = c.args in
    (c.sweep-sweep.result < (shard a.cap a.ws.now).slots.count) × (c.sweep-sweep.result < a.cap)
held c = intact_sweep c.requires.0 c.requires.2 c.sweep-sweep.ensures

held_2 : (c : goal.After-remove_at-arg-1) → let a = c.args in
    (c.sweep-sweep.result < (shard a.cap a.ws.now).slots.count) × (c.sweep-sweep.result < a.cap)
held_2 c = intact_sweep c.requires.0 c.requires.2 c.sweep-sweep.ensures

held_3 : (c : goal.After-set_sweep-arg-else-is_reclaimable-1) → let a = c.args in
    (c.sweep-sweep.result < (shard a.cap a.ws.now).slots.count) × (c.sweep-sweep.result < a.cap)
held_3 c = intact_sweep c.requires.0 c.requires.2 c.sweep-sweep.ensures

tested : (c : goal.After-slice_known-then-is_reclaimable-2-1) → let a = c.args in let s = shard a.cap a.ws.now in
    c.is_reclaimable.result ≡ reclaimable a.config a.at a.ttl_ms (slot_at s (sweep_of s))
tested c = rw (c.load.ensures, c.sweep-sweep.ensures) at c.is_reclaimable.ensures

tested_2 : (c : goal.After-slice_known-else-is_reclaimable-1) → let a = c.args in let s = shard a.cap a.ws.now in
    c.is_reclaimable.result ≡ reclaimable a.config a.at a.ttl_ms (slot_at s (sweep_of s))
tested_2 c = rw (c.load.ensures, c.sweep-sweep.ensures) at c.is_reclaimable.ensures

pub load-requires : goal.load-requires
load-requires c = (c.requires.0.size, (held c).1)

pub is_reclaimable-requires : goal.is_reclaimable-requires
is_reclaimable-requires c = c.requires.1

pub remove_at-requires : goal.remove_at-requires
remove_at-requires c = let after = after_sweep c.requires.0 c.set_sweep.auto.ws _ c.set_sweep.ensures in
    (after.intact, rw after.count (held_2 c).0)

pub overflow_add-sweep : goal.overflow_add-sweep
overflow_add-sweep c = omega (arith, (held_3 c).1)

pub returns-then-is_reclaimable : goal.returns-then-is_reclaimable
returns-then-is_reclaimable c = let goes = sym (tested c) ∙ c.if-is_reclaimable.true in
    rw (c.remove_at.ensures, c.set_sweep.ensures, c.sweep-sweep.ensures) (idle_look_goes _ _ _ _ c.requires.2 goes)

pub returns-else-is_reclaimable : goal.returns-else-is_reclaimable
returns-else-is_reclaimable c = let stays = sym (tested_2 c) ∙ c.if-is_reclaimable.false in
    rw (c.set_sweep-else-is_reclaimable.ensures, c.sweep-sweep.ensures) (idle_look_stays _ _ _ _ c.requires.2 stays)
