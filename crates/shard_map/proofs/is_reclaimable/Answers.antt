-- `is_reclaimable` asks whether the slot is idle and then whether it is full, as the definition's own test goes.
use mathlib.Core.Path.{sym, ◌∙◌}
use Rattle.shard_map.proofs.is_reclaimable.Goals as goal

pub returns-then-is_expired : goal.returns-then-is_expired
returns-then-is_expired c = simp (c.is_lossless.ensures, rw c.millis.ensures at (sym c.is_expired.ensures ∙ c.if-is_expired.true))

pub returns-else-is_expired : goal.returns-else-is_expired
returns-else-is_expired c = simp (c.if-is_expired.false, rw c.millis.ensures at (sym c.is_expired.ensures ∙ c.if-is_expired.false))
