-- `available_at` meets its contract: it computes the definition, from what its callees ensure.
use Rattle.bucket.proofs.BucketLaws.{available_by_parts}
use Rattle.bucket.proofs.BucketCore.available_at.Goals as goal

pub returns : goal.returns
returns c = rw (c.saturating_sub.ensures, c.shortfall_at.ensures, c.full_parts-full.ensures) (available_by_parts _ _ _)
