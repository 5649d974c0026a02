-- `sweep_idle` makes its looks one by one. The loop holds that the looks left, made from here, give what all of them give from the start.
use Prim.Native.Nat.{◌-◌}
use Rattle.held.proofs.RoundLaws.{Sweeping}
use Rattle.shard_map.specs.Model.{sweep_idle}
use Rattle.shard_map.specs.Layout.{shard, Intact}
use Rattle.shard_map.proofs.sweep_idle.Given as goal

abbrev pub invariant-loop : goal.invariant-loop
invariant-loop l = Sweeping (Intact l.cap) (shard l.cap) (sweep_idle l.config l.at l.ttl_ms) l.budget l.initial.ws (l.budget - l.counter) l.ws

abbrev pub decreases-loop : goal.decreases-loop
decreases-loop l = l.budget - l.counter
