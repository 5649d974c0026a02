-- What one request to a bucket does to a bound by its line: a grant raises the line by its parts, a denial changes nothing. A refund lowers the line by no
-- more than its parts.
use Prim.Native.Nat.{ℕ, ◌+◌, ◌*◌, ◌-◌, ◌≤◌, ◌^◌, max}
use mathlib.Core.Path.{◌≡◌}
use native.Mathlib.Nat.{mul-le-mul, mul-le-mul_right}
use native.Mathlib.Omega.{arith}
use Rattle.arith.proofs.Cases.{by_le}
use Rattle.arith.proofs.DivisionLaws.{ceil_div_reaches, ceil_div_within}
use Rattle.units.specs.declared.Nanos.{Nanos}
use Rattle.bucket.specs.declared.BucketConfig.{BucketConfig}
use Rattle.bucket.specs.declared.BucketCore.{BucketCore}
use Rattle.bucket.specs.declared.BucketDecision.{BucketDecision}
use Rattle.bucket.specs.declared.BucketDecision.TheVariants.{Allowed, Denied}
use Rattle.bucket.specs.declared.Request.{Request}
use Rattle.bucket.specs.Bucket.{Accepted, parts_of, full_parts, most_shortfall, shortfall_at, wait_at, spent, longest_wait, request_wait, asked, refunded}
use Rattle.bucket.proofs.BucketLaws.{wait_from_the_stamp_on, granted_within_longest, denied_beyond_longest, granted_waits_own}
use Rattle.demands.proofs.LineBound.{Soonest, LineBound, BoundOf}

-- What happened to the key after a decision on a cost at a moment. A key that is denied, by its bucket or for want of space, is granted nothing.
abbrev pub decision_adds : {A P C : ℕ} (B : LineBound A P C) → Nanos → ℕ → BucketDecision → B.History → B.History
decision_adds B at cost (Allowed due) g = B.grant at.0 due.wait.0 cost g
decision_adds B at cost (Denied due) g = g

-- The bound holds of the line of a bucket that lacks so many parts at a moment.
abbrev pub HoldsAt : (c : BucketConfig) (B : BoundOf c) → Nanos → ℕ → B.History → Type 0
HoldsAt c B at lacking g = B.Holds (at.0 * c.amount + lacking) g

pub holds_of_more : (c : BucketConfig) (B : BoundOf c) (at : Nanos) {less more : ℕ} {g : B.History} → less ≤ more
    → HoldsAt c B at less g → HoldsAt c B at more g
holds_of_more c B at le holds = B.raised (omega arith) holds

-- A bucket that was just charged lacks what it lacked and the parts of the cost, unless that is more than is ever read.
spent_lacks : (c : BucketConfig) (b : BucketCore) (cost : ℕ) (at : Nanos) → shortfall_at c b at + parts_of c cost ≤ most_shortfall c
    → shortfall_at c (spent c b cost at) at ≡ shortfall_at c b at + parts_of c cost
unfolding shortfall_at
spent_lacks c b cost at le = omega (arith, mul-le-mul_right {m = at.0 - max b.stamp.0 at.0} {n = 0} c.amount (omega arith))

-- From the stamp on the wait is the first span in which what the bucket lacks for a cost comes back. Before the stamp it is longer.
wait_is_soonest : (c : BucketConfig) (b : BucketCore) (cost : ℕ) (at : Nanos) → Accepted c → 1 ≤ cost → cost ≤ c.capacity → b.stamp.0 ≤ at.0
    → Soonest c.amount (shortfall_at c b at + parts_of c cost - full_parts c) (wait_at c b cost at)
wait_is_soonest c b cost at a some within passed =
    let lack : ℕ = shortfall_at c b at + parts_of c cost - full_parts c in
    rw (← wait_from_the_stamp_on b cost at a within (λ none. omega arith) passed)
    (record { enough = ceil_div_reaches lack c.amount a.amount_least; soonest = ceil_div_within lack c.amount a.amount_least })

module _ (c : BucketConfig) (B : BoundOf c) (request : Request) (b : BucketCore) (cost : ℕ) (at : Nanos) (a : Accepted c) (some : 1 ≤ cost)
    (within_burst : cost ≤ c.capacity) (longest : longest_wait request ≤ 2 ^ 46) (passed : b.stamp.0 ≤ at.0) where
  -- A wait of at most 2^46 ns keeps the charged shortfall within what is read, so a grant adds all of its parts.
  grant_keeps_bound : (g : B.History) → wait_at c b cost at ≤ longest_wait request → HoldsAt c B at (shortfall_at c b at) g
      → HoldsAt c B at (shortfall_at c (spent c b cost at) at) (B.grant at.0 (wait_at c b cost at) cost g)
  grant_keeps_bound g soon holds =
      let A : ℕ = c.amount in
      let wait : ℕ = wait_at c b cost at in
      let s : ℕ = shortfall_at c b at in
      let first : Soonest A (s + cost * c.period.0 - c.capacity * c.period.0) wait = wait_is_soonest c b cost at a some within_burst passed in
      let short : wait * A ≤ 2 ^ 46 * 65535 = mul-le-mul {n₁ = wait} {m₁ = A} {n₂ = 2 ^ 46} {m₂ = 65535} (omega arith) a.amount_most in
      holds_of_more c B at (omega (arith, spent_lacks c b cost at (omega arith))) (B.granted at.0 s cost wait within_burst first holds)

  -- Whatever the bucket decides, the bound holds of what it then lacks.
  pub asked_keeps_bound : {g : B.History} → HoldsAt c B at (shortfall_at c b at) g
      → HoldsAt c B at (shortfall_at c (asked c request b cost at).bucket at) (decision_adds B at cost (asked c request b cost at).decision g)
  asked_keeps_bound {g} holds =
      by_le (request_wait c request b cost at) (longest_wait request)
      (λ soon.
      let own : request_wait c request b cost at ≡ wait_at c b cost at = granted_waits_own request (wait_at c b cost at) soon in
      rw (granted_within_longest c request b cost at soon, own) (grant_keeps_bound g (rw own at soon) holds))
      (λ late. rw (denied_beyond_longest c request b cost at late) holds)

-- A refund lowers what a bucket lacks by no more than the parts refunded.
pub refund_lowers_by_its_parts_at_most : (c : BucketConfig) (b : BucketCore) (cost : ℕ) (at : Nanos)
    → shortfall_at c b at ≤ shortfall_at c (refunded c b cost) at + parts_of c cost
unfolding shortfall_at
refund_lowers_by_its_parts_at_most c b cost at = omega arith
