-- The rate: which are refused, and the bucket configuration that an accepted one comes to.
use Rattle.std.specs.Prelude.{ℕ, ◌^◌, min, cond, ltb, Option, Some, None}
use Rattle.arith.specs.Arith.{ceil_div}
use Rattle.bucket.specs.declared.BucketConfig.{BucketConfig}
use Rattle.bucket.specs.Bucket.{full_parts}
use Rattle.settings.specs.declared.rate.Rate.{Rate}

-- The number that is set, else the other one.
abbrev pub given : Option ℕ → ℕ → ℕ
given None other = other
given (Some tokens) other = tokens

-- The burst in force: the amount where it is unset.
abbrev pub burst_of : Rate → ℕ
burst_of r = given r.burst r.amount

-- The tokens of a fresh bucket: the burst where unset, and never more than the burst.
abbrev pub initial_of : Rate → ℕ
initial_of r = min (given r.initial (burst_of r)) (burst_of r)

abbrev pub config_of : Rate → BucketConfig
config_of r = record { capacity = burst_of r; amount = r.amount; period = r.period; initial = initial_of r }

-- The largest amount and burst, and the longest period in nanoseconds.
abbrev pub most_tokens : ℕ
most_tokens = 65535

abbrev pub longest_period : ℕ
longest_period = 2 ^ 46

-- The refusal number where the value does not lie from 1 to the most; else what the rest of the checks say.
unfoldable pub unless_within : ℕ → ℕ → ℕ → ℕ → ℕ
unless_within value most refusal rest = cond (ltb value 1) refusal (cond (ltb most value) refusal rest)

-- A rate is refused as 1 for its amount, else as 2 for its period, else as 3 for its burst; 0 is not refused.
unfoldable pub rate_refusal : Rate → ℕ
rate_refusal r =
    unless_within r.amount most_tokens 1
    (unless_within r.period.0 longest_period 2
    (unless_within (burst_of r) most_tokens 3 0))

-- How long an empty bucket takes to be full, rounded up.
abbrev pub time_to_full : BucketConfig → ℕ
time_to_full c = ceil_div (full_parts c) c.amount
