-- A peek case by case, as the code comes to it.
use Prim.Native.Nat.{ℕ, ◌≤◌, ◌<◌}
use mathlib.Core.List.{List}
use mathlib.Core.Path.{◌≡◌, ap, ◌∙◌}
use borrow.Author.Tests.{le-ltb, lt-ltb, eq-eqb, ne_eqb}
use Rattle.units.specs.declared.Nanos.{Nanos}
use Rattle.bucket.specs.declared.BucketConfig.{BucketConfig}
use Rattle.bucket.specs.declared.BucketCore.{BucketCore}
use Rattle.bucket.specs.declared.Due.{Due}
use Rattle.bucket.specs.Bucket.{due_at}
use Rattle.settings.specs.declared.Limit.TheVariants.{Closed, Open}
use Rattle.settings.specs.declared.Settings.{Settings}
use Rattle.settings.specs.declared.decision.Decision.{Decision}
use Rattle.settings.specs.declared.decision.Decision.TheVariants.{Acquired, Retry, Impossible}
use Rattle.settings.specs.declared.rate.Rate.{Rate}
use Rattle.settings.specs.Rate.{burst_of, config_of}
use Rattle.shard_map.specs.Model.{Shard}
use Rattle.shard.specs.declared.Identity.{Identity}
use Rattle.shard.specs.Model as OneShard
use Rattle.rules.specs.declared.Reply.{Reply}
use Rattle.rules.specs.declared.Reply.TheVariants.{Tried}
use Rattle.rows.specs.Outcome.{outcome}
use Rattle.rules.specs.Asks.{looks, peeks, closed, due_reply, peeked_in, in_its_shard}

-- When a bucket that is looked at has the cost.
module _ (due : Due) where
  pub no_wait_is_granted : due.wait.0 ≡ 0 → Tried (Acquired due) ≡ due_reply due
  unfolding due_reply
  no_wait_is_granted none = rw (eq-eqb _ _ none)

  pub wait_is_told : (due.wait.0 ≡ 0 → ⊥) → Tried (Retry due) ≡ due_reply due
  unfolding due_reply
  wait_is_told some = rw (ne_eqb _ _ some)

-- A peek of more than a full bucket, and any other: it is answered by the due of the bucket that is viewed.
module _ (rate : Rate) (at : Nanos) (cost : ℕ) (id : Identity) (own : Shard) where
  pub peek_of_too_much : burst_of rate < cost → Tried Impossible ≡ peeked_in (Open rate) at cost id own
  unfolding peeked_in
  peek_of_too_much more = rw (lt-ltb _ _ more)

  pub viewed_due_is_told : {config : BucketConfig} {bucket : BucketCore} {due : Due} {told : Reply} → cost ≤ burst_of rate → config ≡ config_of rate
      → bucket ≡ OneShard.viewed config id at own → due ≡ due_at config bucket cost at → told ≡ due_reply due
      → told ≡ peeked_in (Open rate) at cost id own
  unfolding peeked_in
  viewed_due_is_told within is_config is_bucket is_due is_reply =
      let dues = rw (is_bucket, is_config) at is_due in
      rw (le-ltb _ _ within) (is_reply ∙ ap due_reply dues)

-- A peek on a closed limiter leaves the shard as it is.
pub closed_peek : (s : Settings) (id : Identity) (at : Nanos) (cost : ℕ) (buckets : List BucketCore) (own : Shard) {decision : Decision} → s.limit ≡ Closed
    → decision ≡ closed at cost → in_its_shard s id (looks (peeks at cost)) buckets own ≡ outcome (Tried decision) own
unfolding peeked_in
closed_peek s id at cost buckets own is_limit is = rw (is_limit, is)

-- A peek at the rate that the settings have.
pub peek_by_limit : (s : Settings) (at : Nanos) (cost : ℕ) (id : Identity) (own : Shard) {rate : Rate} {reply : Reply} → s.limit ≡ Open rate
    → reply ≡ peeked_in (Open rate) at cost id own → reply ≡ peeked_in s.limit at cost id own
peek_by_limit s at cost id own is_limit told = rw is_limit told
