-- No promise rests on this page: it serves the inner contracts of the code.
-- Once an unmarked slot is noted, a look at a slot that owes, has no mark and has a stamp that is not after the moment leaves the slot as it is, and notes its
-- shortfall alone. The code makes such looks in a row, and stores the hand once (`row_is_walked`).
use Rattle.std.specs.Prelude.{ℕ, zero, suc, ◌-◌, ◌≤◌, min, ◌≡◌, cond, leb, eqb}
use Rattle.units.specs.declared.Nanos.{Nanos}
use Rattle.bucket.specs.declared.BucketConfig.{BucketConfig}
use Rattle.bucket.specs.Bucket.{shortfall_at}
use Rattle.slot.specs.declared.Slot.{Slot}
use Rattle.slot.specs.Slot.{marked}
use Rattle.shard_map.specs.Model.{Shard, slot_at, with_hand}
use Rattle.evict.specs.declared.Row.{Row}
use Rattle.evict.specs.declared.Walk.{Walk}
use Rattle.evict.specs.Evict.{walk_from}
use Rattle.evict.specs.code.Awaited.{notes_of}

-- What a slot lacks of which the walk notes the shortfall alone; of any other slot 0.
unfoldable pub plainly_owed : BucketConfig → Nanos → Slot → ℕ
plainly_owed c at slot = cond (marked slot) 0 (cond (leb slot.bucket.stamp.0 at.0) (shortfall_at c slot.bucket at) 0)

-- The looks at the last so many slots before the place `end`, up to the first that does not plainly owe: how many are left, and the least shortfall.
unfoldable pub along : BucketConfig → Nanos → Shard → ℕ → ℕ → ℕ → Row
along c at s end zero least = record { left = 0; least = least }
along c at s end (suc left) least =
    let owed = plainly_owed c at (slot_at s (end - suc left)) in
    cond (eqb owed 0) (record { left = suc left; least = least }) (along c at s end left (min least owed))

-- The code's walk with another least shortfall.
abbrev pub with_least : Walk → ℕ → Walk
with_least w least = record { full = w.full; unmarked = w.unmarked; awaited = record { least = least; later = w.awaited.later } }

-- Looks in a row were made from a walk on s with so many looks left: the walk goes on from t, which is s but for the hand, as it would have gone on from s.
pub record Passed (c : BucketConfig) (at : Nanos) (w : Walk) (left : ℕ) (s : Shard) (row : Row) (t : Shard) : Type 0 where
  pub same : walk_from c at left s (notes_of c w) ≡ walk_from c at row.left t (notes_of c (with_least w row.least))
  pub fewer : row.left ≤ left
  pub rest : t ≡ with_hand s t.hand
