-- `look_along` makes its looks one by one. The loop holds that the looks from place pos on give what all of them give from the start.
use Prim.Native.Nat.{ℕ, ◌-◌, ◌≤◌}
use mathlib.Core.Path.{◌≡◌}
use mathlib.Core.List.{List}
use Rattle.units.specs.declared.Nanos.{Nanos}
use Rattle.bucket.specs.declared.BucketConfig.{BucketConfig}
use Rattle.shard_map.specs.Layout.{shard}
use Rattle.evict.specs.code.Row.{along}
use Rattle.evict.proofs.look_along.Given as goal

pub record Looking (ws : List ℕ) (cap : ℕ) (c : BucketConfig) (at : Nanos) (end left₀ least₀ pos least : ℕ) : Type 0 where
  pub within : pos ≤ end
  pub same : along c at (shard cap ws) end (end - pos) least ≡ along c at (shard cap ws) end left₀ least₀

abbrev pub invariant-loop-pos : goal.invariant-loop-pos
invariant-loop-pos l = Looking l.ws l.cap l.config l.at l.end l.fn.row.left l.fn.row.least l.pos l.least

abbrev pub decreases-loop-pos : goal.decreases-loop-pos
decreases-loop-pos l = l.end - l.pos
