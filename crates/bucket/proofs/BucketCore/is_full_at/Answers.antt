-- `is_full_at` meets its contract: it tests the shortfall that `shortfall_at` ensures.
use Rattle.bucket.proofs.BucketCore.is_full_at.Goals as goal

pub returns : goal.returns
returns c = rw c.shortfall_at.ensures
