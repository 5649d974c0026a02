-- A try is granted without a wait, if it is granted.
use Prim.Native.Nat.{ℕ}
use mathlib.Core.Path.{◌≡◌, refl}
use native.Mathlib.Omega.{arith}
use Rattle.units.specs.declared.Nanos.{Nanos}
use Rattle.bucket.specs.declared.BucketDecision.{BucketDecision}
use Rattle.bucket.specs.declared.BucketDecision.TheVariants.{Allowed, Denied}
use Rattle.bucket.specs.declared.Request.{Request}
use Rattle.bucket.specs.declared.Request.TheVariants.{Acquire, Reserve, Through}
use Rattle.bucket.specs.Bucket.{longest_wait}
use Rattle.shard_map.specs.Model.{Shard}
use Rattle.shard.specs.declared.Identity.{Identity}
use Rattle.shard.specs.declared.Policy.{Policy}
use Rattle.shard.specs.Model.{with_or_insert}
use Rattle.shard.proofs.DueLaws.{TellsItsMoment, granted, denied, every_answer_tells_its_moment}

-- An answer as its request asks for it: where a try is granted, there is no wait.
abbrev AtOnce : BucketDecision → Type 0
AtOnce (Allowed due) = due.wait.0 ≡ 0
AtOnce (Denied due) = Unit {0}

abbrev pub AsAsked : Request → BucketDecision → Type 0
AsAsked Acquire decision = AtOnce decision
AsAsked (Reserve longest) decision = Unit {0}
AsAsked (Through others) decision = AtOnce decision

try_grants_at_once : {r : Request} {at : Nanos} {d : BucketDecision} → longest_wait r ≡ 0 → TellsItsMoment r at d → AtOnce d
try_grants_at_once none (granted wait within others') = omega (arith, none)
try_grants_at_once none (denied wait) = tt

pub store_grants_as_asked : (p : Policy) (id : Identity) (r : Request) (cost : ℕ) (at : Nanos) (s : Shard) → AsAsked r (with_or_insert p id r cost at s).answer
store_grants_as_asked p id (Reserve longest) cost at s = tt
store_grants_as_asked p id Acquire cost at s = try_grants_at_once refl (every_answer_tells_its_moment p id Acquire cost at s)
store_grants_as_asked p id (Through others) cost at s = try_grants_at_once refl (every_answer_tells_its_moment p id (Through others) cost at s)
