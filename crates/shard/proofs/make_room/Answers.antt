-- `make_room` compares the count after the sweeps with the cap, which is the room that the lent words have. A full shard holds a slot to evict.
use mathlib.Core.Path.{◌∙◌}
use native.Mathlib.Omega.{arith}
use Rattle.shard_map.specs.Layout.{Intact}
use Rattle.shard_map.proofs.ModelLaws.{intact_cap}
use Rattle.shard.proofs.ModelLaws.{intact_after_sweeps, room_is_left, room_by_eviction}
use Rattle.shard.proofs.make_room.Goals as goal

still-intact : (c : goal.After-slice_known-2-1) → Intact c.args.cap c.sweep.new.ws
still-intact c = intact_after_sweeps c.requires.0 c.sweep.auto.ws c.args.policy c.args.at c.sweep.ensures

still-intact_2 : (c : goal.Then-len-cap) → Intact c.args.cap c.sweep.new.ws
still-intact_2 c = intact_after_sweeps c.requires.0 c.sweep.auto.ws c.args.policy c.args.at c.sweep.ensures

still-intact_3 : (c : goal.After-evict_one-arg-2-1) → Intact c.args.cap c.sweep.new.ws
still-intact_3 c = intact_after_sweeps c.requires.0 c.sweep.auto.ws c.args.policy c.args.at c.sweep.ensures

still-intact_4 : (c : goal.After-slice_known-3-1) → Intact c.args.cap c.sweep.new.ws
still-intact_4 c = intact_after_sweeps c.requires.0 c.sweep.auto.ws c.args.policy c.args.at c.sweep.ensures

pub len-requires : goal.len-requires
len-requires c = (still-intact c).size

pub returns-then-len-cap : goal.returns-then-len-cap
returns-then-len-cap c = room_is_left _ _ _ c.sweep.ensures (omega (arith, intact_cap (still-intact_2 c)))

pub evict_one-requires : goal.evict_one-requires
evict_one-requires c = let intact = still-intact_3 c in
    (intact, c.requires.1, omega (arith, intact.sound.room, intact_cap intact))

pub returns : goal.returns
returns c = c.evict_one.ensures ∙ room_by_eviction _ _ _ c.sweep.ensures (omega (arith, intact_cap (still-intact_4 c)))
