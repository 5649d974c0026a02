-- `evict_one` is the walk and what follows from it. The loop holds that the looks left, made from here, give the walk from the start; where its two
-- ways out meet, the place that it yields and the shard are the walk's own. Then the victim is chosen and what is to happen to it happens.
use Rattle.std.proofs.Common.{Option}
use Prim.Native.Nat.{ℕ, ◌<◌}
use mathlib.Core.Path.{◌≡◌}
use mathlib.Core.List.{List}
use lib.ListN.{length}
use Rattle.units.specs.declared.Nanos.{Nanos}
use Rattle.bucket.specs.declared.BucketConfig.{BucketConfig}
use Rattle.shard_map.specs.Layout.{shard, Intact}
use Rattle.evict.specs.declared.Walk.{Walk}
use Rattle.evict.specs.Evict.{walk_from, walked}
use Rattle.evict.specs.code.Awaited.{notes_of}
use Rattle.evict.proofs.evict_one.Given as goal

-- The walk from here, with the looks that are left, is the walk from the start.
pub record Walking (ws₀ : List ℕ) (cap : ℕ) (c : BucketConfig) (at : Nanos) (ws : List ℕ) (left : ℕ) (walk : Walk) : Type 0 where
  pub intact : Intact cap ws
  pub some : 0 < (shard cap ws).slots.count
  pub long : length ws ≡ length ws₀
  pub same : walk_from c at left (shard cap ws) (notes_of c walk) ≡ walked c at (shard cap ws₀)

-- Where the two ways out of the loop meet: what it yields, what was noted and the shard are those of the walk.
pub record Ended (ws₀ : List ℕ) (cap : ℕ) (c : BucketConfig) (at : Nanos) (ws : List ℕ) (ended : Option ℕ) (walk : Walk) : Type 0 where
  pub long : length ws ≡ length ws₀
  pub same : walked c at (shard cap ws₀) ≡ record { ended = ended; notes = notes_of c walk; after = shard cap ws }

abbrev pub invariant-loop-left : goal.invariant-loop-left
invariant-loop-left l = Walking l.initial.ws l.cap l.config l.at l.ws l.left l.walk

abbrev pub decreases-loop-left : goal.decreases-loop-left
decreases-loop-left l = l.left
