-- `shortfall_at` meets its contract: a fall held to 64 bits lowers a shortfall below 2^64 as the whole fall does.
use Rattle.bucket.proofs.BucketLaws.{shortfall_by_saturated}
use Rattle.bucket.proofs.BucketCore.shortfall_at.Goals as goal

pub returns : goal.returns
returns c = rw (c.saturating_sub.ensures, c.saturating_mul.ensures, c.saturating_sub-elapsed.ensures, c.read_shortfall-shortfall.ensures)
    (shortfall_by_saturated _ _ c.requires)
