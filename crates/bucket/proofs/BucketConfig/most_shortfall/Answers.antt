-- `most_shortfall` meets its contract: the sum is below 2^63.
use Rattle.bucket.proofs.BucketLaws.{most_shortfall_fits}
use native.Mathlib.Omega.{arith}
use Rattle.bucket.proofs.BucketConfig.most_shortfall.Goals as goal

pub overflow_add-result : goal.overflow_add-result
overflow_add-result c = omega (arith, most_shortfall_fits c.requires)
