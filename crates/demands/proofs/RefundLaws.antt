-- The key's own refund, of its slot or of its debt: it lowers the line by no more than the parts refunded. So it keeps the invariant of a bound that allows
-- for refunds.
use Prim.Native.Nat.{ℕ, ◌+◌, ◌*◌, ◌-◌, ◌/◌, ◌≤◌}
use mathlib.Core.Path.{◌≡◌}
use mathlib.Core.Bool.{Bool, true, false}
use native.Mathlib.Nat.{mul-le-mul_right, div-mul-le_self}
use native.Mathlib.Omega.{arith}
use Rattle.units.specs.declared.Nanos.{Nanos}
use Rattle.bucket.specs.declared.BucketConfig.{BucketConfig}
use Rattle.bucket.specs.Bucket.{parts_of}
use Rattle.rows.specs.Outcome.{Outcome}
use Rattle.ledger.specs.declared.Debt.{Debt}
use Rattle.ledger.specs.Model as Ledger
use Rattle.ledger.proofs.StepLaws as LedgerSteps
use Rattle.ledger.proofs.KeptLaws as Debts
use Rattle.shard_map.specs.Model.{Shard, Sound, slot_at, with_ledger}
use Rattle.shard_map.proofs.KeptLaws.{unpaid, OneSlot, one_slot_is_all}
use Rattle.shard.specs.declared.Identity.{Identity}
use Rattle.shard.specs.Model.{refunded}
use Rattle.shard.proofs.ShardLaws.{Refunding, slot_refunded, debt_paid, refund_cases}
use Rattle.demands.proofs.LineBound.{LineBound, BoundOf}
use Rattle.demands.proofs.BucketKept.{refund_lowers_by_its_parts_at_most}
use Rattle.demands.proofs.RequestLaws.{Invariant, own_slot_changed}

-- What happened to the key after a refund: one that is answered known counts by its cost, any other does not count.
abbrev pub refund_adds : {A P C : ℕ} (B : LineBound A P C) → ℕ → Bool → B.History → B.History
refund_adds B cost true g = B.refund cost g
refund_adds B cost false g = g

-- In the time that a refund takes off a debt no more comes back than the parts refunded, since that time is rounded down.
credit_is_within_the_parts : (c : BucketConfig) (cost : ℕ) → (Ledger.credit c cost).0 * c.amount ≤ parts_of c cost
credit_is_within_the_parts c cost =
    let each : ℕ = c.period.0 / c.amount in
    let parts : each * c.amount * cost ≤ c.period.0 * cost = mul-le-mul_right cost (div-mul-le_self c.period.0 c.amount) in
    let held : (Ledger.credit c cost).0 * c.amount ≤ each * cost * c.amount = mul-le-mul_right c.amount (omega arith) in
    omega arith

paid_debt_lacks_less_by_the_parts_at_most : (c : BucketConfig) (at : Nanos) (cost settles : ℕ)
    → unpaid c at settles ≤ unpaid c at (settles - (Ledger.credit c cost).0) + parts_of c cost
paid_debt_lacks_less_by_the_parts_at_most c at cost settles =
    let off : ℕ = (Ledger.credit c cost).0 in
    let time : (settles - at.0) * c.amount ≤ (settles - off - at.0 + off) * c.amount = mul-le-mul_right c.amount (omega arith) in
    omega (arith, credit_is_within_the_parts c cost)

module _ (c : BucketConfig) (B : BoundOf c) (allowed : B.Refundable) (cost : ℕ) (at : Nanos) (s : Shard) (u : Sound s) where
  own_debt_paid : (h k : ℕ) {g : B.History} → Invariant c B h k at s g →
      let o = Ledger.paid_down s.ledger h cost c in
      Invariant c B h k at (with_ledger s o.after) (refund_adds B cost o.answer g)
  own_debt_paid h k {g} v =
      let l : Ledger.Ledger = s.ledger in
      LedgerSteps.paid_cases l h cost c (λ o. Invariant c B h k at (with_ledger s o.after) (refund_adds B cost o.answer g))
      (λ p e.
      let f : LedgerSteps.Owing l h p = LedgerSteps.found_owes l h p e in
      let old : Debt = Ledger.debt_at l p in
      let new : Debt = LedgerSteps.sooner_by (Ledger.credit c cost) old in
      let value : ℕ → ℕ = unpaid c at in
      record {
        one = omega (
          arith,
          v.one,
          Debts.owed_stored h Debts.one l p new u.ledger f.below,
          Debts.weigh_own h Debts.one old f.own,
          Debts.weigh_own h Debts.one new f.own,
        );
        bound = B.refunded cost allowed (
            omega (
              arith,
              Debts.owed_stored h value l p new u.ledger f.below,
              Debts.weigh_own h value old f.own,
              Debts.weigh_own h value new f.own,
              paid_debt_lacks_less_by_the_parts_at_most c at cost old.settles.0,
            )
            ) v.bound;
      })
      (λ e. v)

  own_refund_of_identity : (id : Identity) {g : B.History} → Invariant c B id.hash id.key at s g
      → Invariant c B id.hash id.key at (refunded c id cost s).after (refund_adds B cost (refunded c id cost s).answer g)
  own_refund_of_identity id {g} v = go (refund_cases c id cost s)
    where
      go : {o : Outcome Bool Shard} → Refunding c id cost s o → Invariant c B id.hash id.key at o.after (refund_adds B cost o.answer g)
      go (slot_refunded i slot e f r) =
          let all : OneSlot c id.hash id.key at s i = one_slot_is_all c id.hash id.key at s i u f v.one in
          own_slot_changed c id.hash id.key at s u r B f v.one
          (B.refunded cost allowed (omega (arith, all.all, refund_lowers_by_its_parts_at_most c (slot_at s i).bucket cost at)) v.bound)
      go (debt_paid e) = own_debt_paid id.hash id.key v

  -- The same, for a key whose hash and key are known by an equation.
  pub own_refund : (id : Identity) (h k : ℕ) → id.hash ≡ h → id.key ≡ k → {g : B.History} → Invariant c B h k at s g
      → Invariant c B h k at (refunded c id cost s).after (refund_adds B cost (refunded c id cost s).answer g)
  own_refund id h k hash key v = rw (← hash, ← key) (own_refund_of_identity id (rw (← hash, ← key) at v))
