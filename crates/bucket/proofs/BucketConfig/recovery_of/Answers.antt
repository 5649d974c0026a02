-- `recovery_of` meets its contract: std's `div_ceil` is the division rounded up.
use Rattle.arith.proofs.DivisionLaws.{div_ceil_rounds_up}
use Rattle.bucket.proofs.BucketConfig.recovery_of.Goals as goal

pub returns : goal.returns
returns c = rw c.div_ceil.ensures (div_ceil_rounds_up _ _ c.requires.amount_least)
