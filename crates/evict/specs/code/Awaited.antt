-- No promise rests on this page: it serves the inner contracts of the code.
-- The code does not work out the recovery of each slot that it looks at, since that takes a division. Where a stamp is not after the moment, the slot with the
-- least shortfall recovers the soonest. So the code notes the least shortfall, and divides once, on a refusal (`awaited_recovers_soonest`).
use Rattle.std.specs.Prelude.{ℕ, min, cond, leb, eqb, None}
use Rattle.units.specs.declared.Nanos.{Nanos}
use Rattle.bucket.specs.declared.BucketConfig.{BucketConfig}
use Rattle.bucket.specs.declared.BucketCore.{BucketCore}
use Rattle.bucket.specs.Bucket.{shortfall_at, recovery_of, recovery_at}
use Rattle.slot.specs.declared.Slot.{Slot}
use Rattle.slot.specs.Slot.{lossless}
use Rattle.evict.specs.declared.Awaited.{Awaited}
use Rattle.evict.specs.declared.Walk.{Walk}
use Rattle.evict.specs.Evict.{Notes, last_word, noted}

-- One more slot that is not full. Of those whose stamp is not after the moment the least shortfall is noted, and of the others the soonest recovery.
unfoldable pub awaiting : BucketConfig → Nanos → Awaited → BucketCore → Awaited
awaiting c at w b =
    cond (leb b.stamp.0 at.0)
    (record { least = min w.least (shortfall_at c b at); later = w.later })
    (record { least = w.least; later = min w.later (recovery_at c b at) })

-- The soonest recovery of the slots awaited. No shortfall is so large as the last word: it stands for none.
unfoldable pub soonest_in : BucketConfig → Awaited → ℕ
soonest_in c w = cond (eqb w.least last_word) w.later (min (recovery_of c w.least) w.later)

-- The notes that the code's walk stands for.
abbrev pub notes_of : BucketConfig → Walk → Notes
notes_of c w = record { full = w.full; unmarked = w.unmarked; soonest = soonest_in c w.awaited }

-- The code's walk before its first look.
abbrev pub new_walk : Walk
new_walk = record { full = None; unmarked = None; awaited = record { least = last_word; later = last_word } }

-- The code's walk after one more look: it notes the places that the definition notes.
abbrev pub walk_noted : BucketConfig → Nanos → Walk → ℕ → Slot → Walk
walk_noted c at w p slot =
    let n = noted c at (notes_of c w) p slot in
    record { full = n.full; unmarked = n.unmarked; awaited = cond (lossless c slot at) w.awaited (awaiting c at w.awaited slot.bucket) }
