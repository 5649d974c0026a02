-- What a caller may count on who is told a wait by a denial. If nothing happens to the bucket in between, a try of the cost is granted at the told moment and
-- from then on, and at no moment before it, whether the stamp is before the call or after it. A moment at the bound of 64 bits may be held, and promises
-- nothing.
use Prim.Native.Nat.{ℕ, ◌+◌, ◌*◌, ◌-◌, ◌≤◌, ◌<◌, ◌^◌}
use mathlib.Core.Path.{◌≡◌, ap, sym, ◌∙◌}
use mathlib.Core.Bool.{true, false}
use native.Mathlib.Nat.{mul-le-mul_right}
use native.Mathlib.Omega.{arith}
use borrow.Author.Tests.{ne_eqb}
use Rattle.arith.specs.Arith.{ceil_div}
use Rattle.arith.proofs.Cases.{by_le}
use Rattle.arith.proofs.DivisionLaws.{ceil_div_reaches, ceil_div_within}
use Rattle.units.specs.declared.Nanos.{Nanos}
use Rattle.bucket.specs.declared.BucketConfig.{BucketConfig}
use Rattle.bucket.specs.declared.BucketCore.{BucketCore}
use Rattle.bucket.specs.declared.Request.{Request}
use Rattle.bucket.specs.declared.Request.TheVariants.{Acquire}
use Rattle.bucket.specs.declared.BucketDecision.{BucketDecision}
use Rattle.bucket.specs.declared.BucketDecision.TheVariants.{Allowed, Denied}
use Rattle.bucket.specs.declared.Due.{Due}
use Rattle.bucket.specs.Bucket.{Accepted, parts_of, full_parts, shortfall_at, lack_for, wait_at, due_after, due_at, spent, longest_wait, request_wait}
use Rattle.bucket.specs.Bucket.{request_due}
use Rattle.bucket.specs.Bucket.{asked}
use Rattle.bucket.proofs.BucketLaws.{parts_within, no_wait_stays_none, wait_grows, no_cost_no_wait, wait_for_lack, enough_no_wait}
use Rattle.bucket.proofs.BucketLaws.{granted_within_longest, denied_beyond_longest}

-- The moment is the first at which a try of the cost is granted, if nothing happens to the bucket before.
pub record FirstGranted (c : BucketConfig) (b : BucketCore) (cost : ℕ) (told : Nanos) : Type 0 where
  pub granted : (t : Nanos) → told.0 ≤ t.0
      → asked c Acquire b cost t ≡ record { decision = Allowed (due_after t (record { 0 = 0 })); bucket = spent c b cost t; turns_away = false }
  pub denied : (t : Nanos) → t.0 < told.0 → asked c Acquire b cost t ≡ record { decision = Denied (due_at c b cost t); bucket = b; turns_away = true }

-- What a denial tells; for a grant the other value.
abbrev told_by : BucketDecision → Due → Due
told_by (Allowed due) other = other
told_by (Denied due) other = due

abbrev is_denied : BucketDecision → ℕ
is_denied (Allowed due) = 0
is_denied (Denied due) = 1

told_by_denial : {told due : Due} → Denied told ≡ Denied due → told ≡ due
told_by_denial {told} e = ap (λ d. told_by d told) e

allowed_is_no_denial : {Q : Type 0} {told due : Due} → Allowed told ≡ Denied due → Q
allowed_is_no_denial e = let z : ◌≡◌ {A = ℕ} 0 1 = ap is_denied e in absurd (omega arith)

module _ {c : BucketConfig} (b : BucketCore) (cost : ℕ) (at : Nanos) (a : Accepted c) (within : cost ≤ c.capacity) where
  -- How long what the bucket lacks takes to come back, once parts come back; and the moment that is told.
  abbrev base : ℕ
  base = ceil_div (lack_for c b cost at) c.amount

  abbrev told : Nanos
  told = (due_at c b cost at).moment

  -- Who has to wait asks for tokens, and lacks parts.
  costs_some : 0 < wait_at c b cost at → cost ≡ 0 → ⊥
  costs_some waits none = omega (arith, no_cost_no_wait c b cost at none)

  lacks_some : 0 < wait_at c b cost at → base ≡ 0 → ⊥
  lacks_some waits none = omega (arith, no_wait_stays_none b at base none, wait_for_lack c b cost at (costs_some waits))

  -- So the told moment is the later of the call and the stamp, plus that time.
  told_from_the_later : 0 < wait_at c b cost at → told.0 < 2 ^ 64 - 1 → told.0 ≡ at.0 + (b.stamp.0 - at.0) + base
  told_from_the_later waits below =
      omega (arith, wait_grows b at base (lacks_some waits), wait_for_lack c b cost at (costs_some waits))

  -- What has come back at a moment is the amount for each nanosecond since the stamp: at the told moment what was lacking, and before it less.
  enough_from_told_on : 0 < wait_at c b cost at → told.0 < 2 ^ 64 - 1 → (t : Nanos) → told.0 ≤ t.0 → shortfall_at c b t + parts_of c cost ≤ full_parts c
  unfolding shortfall_at
  enough_from_told_on waits below t since =
      let A : ℕ = c.amount in
      let span : (base + (at.0 - b.stamp.0)) * A ≤ (t.0 - b.stamp.0) * A = mul-le-mul_right A (omega (arith, told_from_the_later waits below)) in
      omega (arith, ceil_div_reaches (lack_for c b cost at) A a.amount_least, parts_within c cost within)

  lacking_before_told : 0 < wait_at c b cost at → told.0 < 2 ^ 64 - 1 → (t : Nanos) → t.0 < told.0 → full_parts c < shortfall_at c b t + parts_of c cost
  unfolding shortfall_at
  lacking_before_told waits below t before =
      let A : ℕ = c.amount in
      let later : told.0 ≡ at.0 + (b.stamp.0 - at.0) + base = told_from_the_later waits below in
      let some : base ≡ 0 → ⊥ = lacks_some waits in
      let span : (t.0 - b.stamp.0 + 1) * A ≤ (base + (at.0 - b.stamp.0)) * A = mul-le-mul_right A (omega arith) in
      let one : 1 * A ≤ base * A = mul-le-mul_right A (omega arith) in
      omega (arith, ceil_div_within (lack_for c b cost at) A a.amount_least, parts_within c cost within)

  -- A cost that is short of parts has to wait.
  short_waits : (t : Nanos) → (cost ≡ 0 → ⊥) → full_parts c < shortfall_at c b t + parts_of c cost → 0 < wait_at c b cost t
  short_waits t some short =
      let lack : ℕ = lack_for c b cost t in
      let takes : ℕ = ceil_div lack c.amount in
      let lasts : takes ≡ 0 → ⊥ = λ none. omega (arith, ceil_div_reaches lack c.amount a.amount_least, ap (λ (n : ℕ). n * c.amount) none) in
      omega (arith, wait_grows b t takes lasts, wait_for_lack c b cost t some, lasts)

  -- The promise, where a cost has to wait.
  pub told_moment_is_the_first : 0 < wait_at c b cost at → told.0 < 2 ^ 64 - 1 → FirstGranted c b cost told
  told_moment_is_the_first waits below = record {
    granted = λ t since.
        let none : 0 ≡ wait_at c b cost t = enough_no_wait b cost t a (enough_from_told_on waits below t since) in
        granted_within_longest c Acquire b cost t (omega arith) ∙ rw (← none);
    denied = λ t before.
        let late : 0 < wait_at c b cost t = short_waits t (costs_some waits) (lacking_before_told waits below t before) in
        denied_beyond_longest c Acquire b cost t late ∙ rw (ne_eqb (wait_at c b cost t) 0 (λ none. omega (arith, none, late)));
  }

  -- So it is with every denial, of a try and of a reservation, that waits for this bucket and not longer for others: the moment that it tells is the first at
  -- which a try is granted. A reservation that waits may be granted before.
  pub denial_tells_the_first_moment : (request : Request) (due : Due) → request_wait c request b cost at ≡ wait_at c b cost at
      → (asked c request b cost at).decision ≡ Denied due → due.moment.0 < 2 ^ 64 - 1 → FirstGranted c b cost due.moment
  denial_tells_the_first_moment request due alone denied below =
      by_le (request_wait c request b cost at) (longest_wait request)
      (λ soon. allowed_is_no_denial (sym (ap (λ o. o.decision) (granted_within_longest c request b cost at soon)) ∙ denied))
      (λ late.
      let told_so : request_due c request b cost at ≡ due =
      told_by_denial (sym (ap (λ o. o.decision) (denied_beyond_longest c request b cost at late)) ∙ denied) in
      let is : due_at c b cost at ≡ due = rw alone at told_so in
      let same : told ≡ due.moment = ap (λ (d : Due). d.moment) is in
      let waits : 0 < wait_at c b cost at = omega arith in
      rw (← same) (told_moment_is_the_first waits (rw (← same) at below)))
