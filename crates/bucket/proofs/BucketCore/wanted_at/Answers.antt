-- `wanted_at` meets its contract: a shortfall and the parts of a cost within the capacity are below 2^64 together.
use Rattle.bucket.proofs.BucketLaws.{parts_fit, grant_fits}
use native.Mathlib.Omega.{arith}
use Rattle.bucket.proofs.BucketCore.wanted_at.Goals as goal

pub overflow_mul-result : goal.overflow_mul-result
overflow_mul-result c = record { fits = parts_fit _ c.requires.0 c.requires.1 }

pub overflow_add-result : goal.overflow_add-result
overflow_add-result c = omega (arith, grant_fits c.args.self c.args.cost c.args.at c.requires.0 c.requires.1)

pub returns : goal.returns
returns c = rw c.shortfall_at.ensures
