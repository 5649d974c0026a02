-- The two sums over all that a shard has of one hash (KeptLaws of the shard), across an eviction: where debts may not be forgotten, none is lost.
use Rattle.std.proofs.Common.{Ok}
use Prim.Native.Nat.{ℕ, ◌+◌, ◌*◌, ◌-◌, ◌≤◌, ◌<◌, ◌^◌}
use mathlib.Core.Path.{◌≡◌, refl, ap}
use mathlib.Core.Bool.{Bool, false}
use native.Mathlib.Nat.{mul-le-mul_right}
use native.Mathlib.Omega.{arith}
use Rattle.arith.proofs.Cases.{by_eq}
use Rattle.arith.specs.Arith.{saturated}
use Rattle.arith.proofs.DivisionLaws.{ceil_div_reaches}
use Rattle.units.specs.declared.Nanos.{Nanos}
use Rattle.bucket.specs.declared.BucketConfig.{BucketConfig}
use Rattle.bucket.specs.declared.BucketCore.{BucketCore}
use Rattle.bucket.specs.Bucket.{Accepted, shortfall_at, recovery_of, recovery_at, due_after}
use Rattle.bucket.proofs.BucketLaws.{shortfall_most, recovery_of_shortfall, recovery_in_time, grown_no_shorter}
use Rattle.rows.proofs.SumLaws.{sum_same}
use Rattle.slot.specs.declared.Slot.{Slot}
use Rattle.slot.specs.Slot.{with_mark}
use Rattle.ledger.specs.declared.Debt.{Debt}
use Rattle.ledger.specs.Model.{no_room}
use Rattle.ledger.specs.Model as Ledger
use Rattle.ledger.proofs.KeptLaws.{weigh, owed, one, weigh_own, weigh_other, record_adds_at_most, record_keeps_unsettled, refusal_keeps}
use Rattle.shard_map.specs.Model.{Shard, Sound, slot_at, with_ledger}
use Rattle.shard_map.proofs.StepLaws.{removal_ledger}
use Rattle.shard_map.proofs.KeptLaws.{weight, short, unpaid, over_all, Keeps, keeps_trans, weight_of_hash, short_own, short_other, count_removed}
use Rattle.shard_map.proofs.KeptLaws.{shortage_removed}
use Rattle.shard_map.proofs.KeptLaws.{unpaid_settled, full_slot_loses_nothing}
use Rattle.evict.specs.Evict.{walked, debt_left, evict_at, evicted}
use Rattle.evict.proofs.WalkLaws.{Remarked, remarked_slots}
use Rattle.evict.proofs.CaseLaws.{debt_recorded, debt_recorded_sound, evict_cases, walk_remarks, walk_sound}

-- What does not look at marks is the same after a walk.
all_remarked : (h : ℕ) (slot_value : Slot → ℕ) (debt_value : ℕ → ℕ) → ((slot : Slot) (mark : ℕ) → slot_value (with_mark slot mark) ≡ slot_value slot)
    → (s t : Shard)
    → Remarked s t → over_all h slot_value debt_value t ≡ over_all h slot_value debt_value s
all_remarked h slot_value debt_value blind s t r =
    let same : (i : ℕ) → i < s.slots.count → slot_value (slot_at t i) ≡ slot_value (slot_at s i) = λ i below. remarked_slots s t r slot_value blind i in
    rw (r.count, r.ledger) (omega (arith, sum_same s.slots.count (λ i. slot_value (slot_at t i)) (λ i. slot_value (slot_at s i)) same))

-- A debt lasts at least as long as the shortfall that it stands for takes to come back. The time until the stamp makes it longer. A moment that is held to 64
-- bits is late enough for any shortfall, since the call was made at 2^62 or before.
pub debt_lasts : (c : BucketConfig) (b : BucketCore) (at : Nanos) → Accepted c → at.0 ≤ 2 ^ 62
    → shortfall_at c b at ≤ ((due_after at (record { 0 = recovery_at c b at })).moment.0 - at.0) * c.amount
debt_lasts c b at a early =
    let s : ℕ = shortfall_at c b at in
    let takes : ℕ = recovery_of c s in
    let left : ℕ = saturated (at.0 + recovery_at c b at) - at.0 in
    let in_time : takes < 2 ^ 63 = recovery_in_time b at a in
    let grows : takes ≤ recovery_at c b at = rw (← recovery_of_shortfall b at a) (grown_no_shorter b at takes (omega arith)) in
    omega (arith, ceil_div_reaches s c.amount a.amount_least, mul-le-mul_right {m = takes} {n = left} c.amount (omega arith))

module _ (c : BucketConfig) (h k : ℕ) where
  -- The walk changes neither sum.
  walk_keeps_shortage : (at : Nanos) (s t : Shard) → Remarked s t → Keeps c h k at s t
  unfolding weight short
  walk_keeps_shortage at s t r = record {
    fewer = omega (arith, all_remarked h (weight h k) one (λ slot mark. refl) s t r);
    more = λ single. omega (arith, all_remarked h (short c h at) (unpaid c at) (λ slot mark. refl) s t r);
  }

  -- The debt that a slot leaves counts no more than the slot, and holds what it held.
  debt_counts_no_more : (at : Nanos) (slot : Slot) → weigh h one (debt_left c at slot) ≤ weight h k slot
  debt_counts_no_more at slot =
      let d : Debt = debt_left c at slot in
      by_eq slot.hash h (λ own. omega (arith, weigh_own h one d own, weight_of_hash h k slot own)) (λ other. omega (arith, weigh_other h one d other))

  debt_holds_as_much : (at : Nanos) (slot : Slot) → Accepted c → at.0 ≤ 2 ^ 62 → short c h at slot ≤ weigh h (unpaid c at) (debt_left c at slot)
  debt_holds_as_much at slot a early =
      let d : Debt = debt_left c at slot in
      by_eq slot.hash h
      (λ own. omega
      (arith, weigh_own h (unpaid c at) d own, short_own c h at slot own, debt_lasts c slot.bucket at a early, shortfall_most c slot.bucket at))
      (λ other. omega (arith, short_other c h at slot other))

  -- A slot goes once its debt is recorded, where debts may not be forgotten; and a recording that is refused changes nothing.
  owing_slot_loses_nothing : (at : Nanos) (forget : Bool) (s : Shard) (p : ℕ) → Accepted c → at.0 ≤ 2 ^ 62 → Sound s → forget ≡ false → p < s.slots.count
      → (debt_recorded c at forget s p).answer ≡ Ok tt → Keeps c h k at s (evict_at (with_ledger s (debt_recorded c at forget s p).after) p)
  owing_slot_loses_nothing at forget s p a early u never below done =
      let slot : Slot = slot_at s p in
      let d : Debt = debt_left c at slot in
      let l : Ledger.Ledger = (debt_recorded c at forget s p).after in
      let v : Sound (with_ledger s l) = debt_recorded_sound c at forget s p u in
      record {
        fewer = omega (
          arith,
          count_removed h k (with_ledger s l) p v below,
          record_adds_at_most h one s.ledger u.ledger d at forget done,
          debt_counts_no_more at slot,
        );
        more = λ single.
            let alone : owed h one s.ledger + weigh h one d ≤ 1 =
            omega (arith, count_removed h k s p u below, ap (owed h one) (removal_ledger s p), debt_counts_no_more at slot) in
            omega (
              arith,
              shortage_removed c h at (with_ledger s l) p v below,
              record_keeps_unsettled h (unpaid c at) s.ledger u.ledger d at forget never (unpaid_settled c at) alone done,
              debt_holds_as_much at slot a early,
            );
      }

  refusal_loses_nothing : (at : Nanos) (forget : Bool) (s : Shard) (p : ℕ) (wait : Nanos) → Sound s → (debt_recorded c at forget s p).answer ≡ no_room wait
      → Keeps c h k at s (with_ledger s (debt_recorded c at forget s p).after)
  refusal_loses_nothing at forget s p wait u told =
      let d : Debt = debt_left c at (slot_at s p) in
      record {
        fewer = omega (arith, refusal_keeps h one s.ledger u.ledger d at forget wait told);
        more = λ single. omega (arith, refusal_keeps h (unpaid c at) s.ledger u.ledger d at forget wait told);
      }

  -- An eviction loses nothing, whether it makes room or is refused, where debts may not be forgotten.
  pub evict_keeps_shortage : (at : Nanos) (forget : Bool) (s : Shard) → Accepted c → at.0 ≤ 2 ^ 62 → Sound s → 0 < s.slots.count → forget ≡ false
      → Keeps c h k at s (evicted c at forget s).after
  evict_keeps_shortage at forget s a early u some never =
      let left : Shard = (walked c at s).after in
      let sound : Sound left = walk_sound c at forget s u some in
      keeps_trans c h k at s left (evicted c at forget s).after (walk_keeps_shortage at s left (walk_remarks c at forget s u some))
      (evict_cases c at forget s u some (λ o. Keeps c h k at left o.after)
      (λ p full. let kept = full_slot_loses_nothing c h k at left p sound full.below full.full in record { fewer = kept.fewer; more = kept.more })
      (λ p below done. owing_slot_loses_nothing at forget left p a early sound never below done)
      (λ p wait below told. refusal_loses_nothing at forget left p wait sound told))
