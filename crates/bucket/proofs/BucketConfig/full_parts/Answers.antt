-- `full_parts` meets its contract: the product fits, since a full bucket has less than 2^62 parts.
use Rattle.bucket.proofs.BucketLaws.{full_parts_most}
use native.Mathlib.Omega.{arith}
use Rattle.bucket.proofs.BucketConfig.full_parts.Goals as goal

pub overflow_mul-result : goal.overflow_mul-result
overflow_mul-result c = omega (arith, full_parts_most c.requires)
