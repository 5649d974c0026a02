-- What a bucket stores fits 64 bits, at an accepted rate and at a moment that is not too late.
use Rattle.std.proofs.Common.{Option, Some, None}
use Prim.Native.Nat.{ℕ, ◌-◌, ◌≤◌, ◌^◌}
use native.Mathlib.Omega.{arith}
use lib.Dec.{leb, eqb}
use Rattle.units.specs.declared.Nanos.{Nanos}
use Rattle.bucket.specs.declared.BucketConfig.{BucketConfig}
use Rattle.bucket.specs.declared.BucketCore.{BucketCore}
use Rattle.bucket.specs.declared.BucketOutcome.{BucketOutcome}
use Rattle.bucket.specs.declared.Request.{Request}
use Rattle.bucket.specs.Bucket.{Accepted, available_at, fresh, longest_wait, request_wait, asked, refunded}
use Rattle.bucket.specs.Debt.{missing_tokens, charged, taken_out, lacking, restored}
use Rattle.bucket.proofs.BucketLaws.{most_shortfall_fits, parts_fit, grant_fits}
use Rattle.shard.specs.Model.{returning}
use Rattle.demands.proofs.EveryLaws.{of_either}
use Rattle.demands.proofs.WordFits.{Word}

-- A bucket whose words fit.
pub record BucketFits (b : BucketCore) : Type 0 where
  pub shortfall : Word b.shortfall
  pub stamp : Word b.stamp.0

-- A refund lowers what is stored.
pub refunded_fits : (c : BucketConfig) (b : BucketCore) (cost : ℕ) → BucketFits b → BucketFits (refunded c b cost)
refunded_fits c b cost f = record { shortfall = omega (arith, f.shortfall); stamp = f.stamp }

module _ (c : BucketConfig) (at : Nanos) (a : Accepted c) (early : at.0 ≤ 2 ^ 62) where
  pub fresh_fits : BucketFits (fresh c at)
  fresh_fits = record { shortfall = parts_fit (c.capacity - c.initial) a (omega arith); stamp = omega arith }

  -- A debt put back: the shortfall stops at its largest.
  charged_fits : (b : BucketCore) (tokens : ℕ) → BucketFits b → BucketFits (charged c b tokens at)
  charged_fits b tokens f = record { shortfall = omega (arith, most_shortfall_fits a); stamp = omega (arith, f.stamp) }

  taken_out_fits : (b : BucketCore) (tokens : ℕ) → BucketFits b → BucketFits (taken_out c b tokens at)
  unfolding taken_out
  taken_out_fits b tokens f = of_either BucketFits (eqb tokens 0) b (charged c b tokens at) f (charged_fits b tokens f)

  lacking_fits : (b : BucketCore) (missing : ℕ) → BucketFits b → BucketFits (lacking c b missing at)
  unfolding lacking
  lacking_fits b missing f = taken_out_fits _ (missing - c.capacity) (taken_out_fits b (available_at c b at - (c.capacity - missing)) f)

  restored_fits : (b : BucketCore) (settles : Nanos) → BucketFits b → BucketFits (restored c b at settles)
  unfolding restored
  restored_fits b settles f =
      let missing : ℕ = missing_tokens c (settles.0 - at.0) in
      of_either BucketFits (eqb (settles.0 - at.0) 0) b (lacking c b missing at) f (lacking_fits b missing f)

  -- The bucket of a key without a slot.
  pub returning_fits : (owed : Option Nanos) → BucketFits (returning c at owed)
  returning_fits None = fresh_fits
  returning_fits (Some settles) = restored_fits (fresh c at) settles fresh_fits

  -- A request of at most the burst: a grant charges the bucket, a denial leaves it.
  pub asked_fits : (request : Request) (b : BucketCore) (cost : ℕ) → cost ≤ c.capacity → BucketFits b → BucketFits (asked c request b cost at).bucket
  unfolding asked
  asked_fits request b cost within f =
      of_either (λ (o : BucketOutcome). BucketFits o.bucket) (leb (request_wait c request b cost at) (longest_wait request)) _ _
      (record { shortfall = grant_fits b cost at a within; stamp = omega (arith, f.stamp) }) f
