-- `refund` meets its contract: parts held to 64 bits lower a shortfall below 2^64 as all of them do.
use Rattle.bucket.proofs.BucketLaws.{refund_by_saturated}
use Rattle.bucket.proofs.BucketCore.refund.Goals as goal

pub returns : goal.returns
returns c = rw (c.saturating_sub.ensures, c.saturating_mul-returned.ensures, c.read_shortfall-shortfall.ensures) (refund_by_saturated _ _ c.requires)
