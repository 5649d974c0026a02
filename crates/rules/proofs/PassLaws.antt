-- A try through a class that is granted tokens: it costs from 1 to the least burst on the chain, and no bucket on the chain makes it wait.
use Prim.Native.Nat.{ℕ, ◌≤◌}
use mathlib.Core.Path.{◌≡◌, sym}
use mathlib.Core.Bool.{true, false, true≢false}
use mathlib.Core.List.{List}
use lib.Dec.{ltb, eqb}
use native.Mathlib.Omega.{arith}
use borrow.Author.Tests.{ltb-false, eqb-false}
use Rattle.arith.proofs.Cases.{by_test}
use Rattle.units.specs.declared.Nanos.{Nanos}
use Rattle.bucket.specs.declared.BucketCore.{BucketCore}
use Rattle.bucket.specs.declared.BucketDecision.{BucketDecision}
use Rattle.bucket.specs.declared.Request.TheVariants.{Through}
use Rattle.settings.specs.declared.Limit.{Limit}
use Rattle.settings.specs.declared.Limit.TheVariants.{Closed, Open}
use Rattle.settings.specs.declared.Settings.{Settings}
use Rattle.settings.specs.Rate.{config_of}
use Rattle.classes.specs.declared.Class.{Class}
use Rattle.classes.specs.Chains.{least_burst, chain_wait}
use Rattle.shard_map.specs.Model.{Shard}
use Rattle.shard.specs.declared.Identity.{Identity}
use Rattle.shard.proofs.DueLaws.{TellsItsMoment, granted, denied, every_answer_tells_its_moment}
use Rattle.rules.specs.Replies.{of_grant}
use Rattle.rules.specs.Asks.{as_try, closed, reply_to, policy_of, asked_in, chain_of, passed_in, grants_some}

-- A request through others that is granted tokens: it has a cost, and the others have no wait.
record Through' (others : Nanos) (cost : ℕ) : Type 0 where
  some : 1 ≤ cost
  at_once : others.0 ≡ 0

decision_grants : (others : Nanos) (cost : ℕ) {at : Nanos} {d : BucketDecision} → eqb cost 0 ≡ false → TellsItsMoment (Through others) at d
    → of_grant (λ wait. true) false (reply_to as_try d) ≡ true → Through' others cost
decision_grants others cost some (granted wait within others') told =
    let more = eqb-false cost 0 some in
    record { some = omega (arith, more); at_once = omega arith }
decision_grants others cost some (denied wait) told = absurd (true≢false (sym told))

through_grants : (others : Nanos) (limit : Limit) (s : Settings) (at : Nanos) (id : Identity) (cost : ℕ) (own : Shard)
    → grants_some cost (asked_in (Through others) limit s at id cost own).answer ≡ true → Through' others cost
unfolding asked_in closed
through_grants others Closed s at id cost own told =
    by_test (eqb cost 0)
    (λ none. absurd (true≢false (sym (rw none at told))))
    (λ some. absurd (true≢false (sym (rw some at told))))
through_grants others (Open rate) s at id cost own told =
    by_test (ltb (config_of rate).capacity cost)
    (λ more. absurd (true≢false (sym (rw more at told))))
    (λ most.
    by_test (eqb cost 0)
    (λ none. absurd (true≢false (sym (rw (most, none) at told))))
    (λ some.
    decision_grants others cost some (every_answer_tells_its_moment (policy_of s rate) id (Through others) cost at own) (rw (most, some) at told)))

pub record PassGranted (cs : List Class) (class : ℕ) (at : Nanos) (cost : ℕ) (buckets : List BucketCore) : Type 0 where
  pub some : 1 ≤ cost
  pub within : cost ≤ least_burst cs (chain_of cs class)
  pub at_once : chain_wait cs cost at buckets (chain_of cs class) ≡ 0

pub granted_pass : (s : Settings) (id : Identity) (cs : List Class) (class : ℕ) (at : Nanos) (cost : ℕ) (buckets : List BucketCore) (own : Shard)
    → grants_some cost (passed_in s id cs class at cost buckets own).answer ≡ true → PassGranted cs class at cost buckets
unfolding passed_in
granted_pass s id cs class at cost buckets own told =
    by_test (ltb (least_burst cs (chain_of cs class)) cost)
    (λ over. absurd (true≢false (sym (rw over at told))))
    (λ within.
    let grants = through_grants (record { 0 = chain_wait cs cost at buckets (chain_of cs class) }) s.limit s at id cost own (rw within at told) in
    record { some = grants.some; within = ltb-false _ _ within; at_once = grants.at_once })
