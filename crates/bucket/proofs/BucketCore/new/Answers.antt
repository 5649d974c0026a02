-- `new` meets its contract: what the initial tokens leave of the capacity has no more parts than a full bucket.
use Rattle.bucket.proofs.BucketLaws.{parts_fit}
use native.Mathlib.Omega.{arith}
use Rattle.bucket.proofs.BucketCore.new.Goals as goal

pub overflow_mul-result : goal.overflow_mul-result
overflow_mul-result c = record { fits = parts_fit _ c.requires (omega arith) }
