-- The debt of a forgotten bucket: the moment at which it would be full again, and a fresh bucket put back into that debt.
use Rattle.std.specs.Prelude.{ℕ, ◌+◌, ◌*◌, ◌-◌, min, max, cond, eqb}
use Rattle.arith.specs.Arith.{ceil_div}
use Rattle.units.specs.declared.Nanos.{Nanos}
use Rattle.bucket.specs.declared.BucketConfig.{BucketConfig}
use Rattle.bucket.specs.declared.BucketCore.{BucketCore}
use Rattle.bucket.specs.Bucket.{parts_of, most_shortfall, shortfall_at, available_at}

-- The tokens that come back in a span, rounded up, so that a debt is never restored too small, unless the shortfall is cut at its largest.
abbrev pub missing_tokens : BucketConfig → ℕ → ℕ
missing_tokens c remaining = ceil_div (remaining * c.amount) c.period.0

-- The bucket after so many tokens are taken out. A bucket that has fewer goes into debt; the shortfall stops at its largest.
abbrev pub charged : BucketConfig → BucketCore → ℕ → Nanos → BucketCore
charged c b tokens at = record {
  shortfall = min (shortfall_at c b at + parts_of c tokens) (most_shortfall c);
  stamp = record { 0 = max b.stamp.0 at.0 };
}

-- As `charged`, but 0 tokens leave the bucket untouched.
unfoldable pub taken_out : BucketConfig → BucketCore → ℕ → Nanos → BucketCore
taken_out c b tokens at = cond (eqb tokens 0) b (charged c b tokens at)

-- The bucket with so many tokens missing. Available tokens above the capacity less the missing ones are taken out. Missing tokens above the capacity are taken
-- out too, as a debt.
unfoldable pub lacking : BucketConfig → BucketCore → ℕ → Nanos → BucketCore
lacking c b missing at =
    taken_out c (taken_out c b (available_at c b at - (c.capacity - missing)) at) (missing - c.capacity) at

-- The bucket put into the debt that settles at a moment. A debt that has settled changes nothing.
unfoldable pub restored : BucketConfig → BucketCore → Nanos → Nanos → BucketCore
restored c b at settles =
    cond (eqb (settles.0 - at.0) 0) b (lacking c b (missing_tokens c (settles.0 - at.0)) at)
