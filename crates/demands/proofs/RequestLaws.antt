-- What one call does to what is held against one key (h, k). The key's own request keeps the invariant: the shard has at most one slot or debt of hash h,
-- and a bound by the line of what that lacks holds of what happened to the key so far. A request, a refund or a removal for another hash loses nothing that
-- is held.
use Rattle.std.proofs.Common.{Option, None, Ok}
use Prim.Native.Nat.{ℕ, ◌≤◌, ◌<◌, ◌^◌}
use mathlib.Core.Path.{◌≡◌, refl, sym, ◌∙◌}
use mathlib.Core.Bool.{Bool, false}
use native.Mathlib.Omega.{arith}
use Rattle.units.specs.declared.Nanos.{Nanos}
use Rattle.bucket.specs.declared.BucketConfig.{BucketConfig}
use Rattle.bucket.specs.declared.BucketCore.{BucketCore}
use Rattle.bucket.specs.declared.Request.{Request}
use Rattle.bucket.specs.Bucket.{Accepted, shortfall_at, longest_wait, asked}
use Rattle.rows.specs.Outcome.{Outcome}
use Rattle.slot.specs.declared.Slot.{Slot}
use Rattle.ledger.specs.Model as Ledger
use Rattle.ledger.proofs.KeptLaws as Debts
use Rattle.shard_map.specs.Model.{Shard, Sound, Complete, cap_of, slot_at, with_slot, with_ledger, place_of, remove_at, insert}
use Rattle.shard_map.proofs.StepLaws.{Holding}
use Rattle.shard_map.proofs.KeptLaws.{weight, unpaid, count, shortage, weight_own, weight_other, short_own, short_other, empty_has_nothing, count_removed}
use Rattle.shard_map.proofs.KeptLaws.{shortage_removed, count_inserted, shortage_inserted, count_stored, shortage_stored, Keeps, keeps_trans, later_keeps_line}
use Rattle.shard_map.proofs.KeptLaws.{nowhere_weighs_nothing, nowhere_holds_the_debt, OneSlot, one_slot_is_all}
use Rattle.bucket.specs.declared.BucketDecision.{BucketDecision}
use Rattle.shard.specs.declared.Identity.{Identity}
use Rattle.shard.specs.declared.Policy.{Policy}
use Rattle.shard.specs.Model.{returning, with_or_insert, refunded, removed}
use Rattle.shard.proofs.OwnBucketLaws.{returning_lacks_the_debt}
use Rattle.shard.proofs.RoomLaws.{room_keeps_shortage, room_made_leaves_room}
use Rattle.shard.proofs.ShardLaws.{Rebucketed, debt_taken, room_for, debt_taken_sound, Asking, slot_asked, key_joins, no_space_lem, ask_cases, Refunding}
use Rattle.shard.proofs.ShardLaws.{slot_refunded, debt_paid, refund_cases, Removing, slot_removed, no_slot, remove_cases}
use Rattle.demands.proofs.LineBound.{BoundOf}
use Rattle.demands.proofs.StampLaws.{StampsBy, returning_stamp}
use Rattle.demands.proofs.BucketKept.{decision_adds, HoldsAt, holds_of_more, asked_keeps_bound}

-- The invariant, of any bound by the line, after calls up to a moment: g is what happened to the key in them.
pub record Invariant (c : BucketConfig) (B : BoundOf c) (h k : ℕ) (at : Nanos) (s : Shard) (g : B.History) : Type 0 where
  pub one : count h k s ≤ 1
  pub bound : HoldsAt c B at (shortage c h at s) g

module _ (c : BucketConfig) (B : BoundOf c) (h k : ℕ) where
  -- A shard that holds nothing, before anything happened.
  pub invariant_empty : (at : Nanos) (s : Shard) → s.slots.count ≡ 0 → s.ledger.debts.count ≡ 0 → Invariant c B h k at s B.start
  invariant_empty at s slotless debtless = record {
    one = omega (arith, empty_has_nothing h (weight h k) Debts.one s slotless debtless);
    bound = B.at_start _;
  }

  -- Time passes.
  pub invariant_later : (n m : Nanos) (s : Shard) {g : B.History} → n.0 ≤ m.0 → Invariant c B h k n s g → Invariant c B h k m s g
  invariant_later n m s le v = record { one = v.one; bound = B.raised (later_keeps_line c h k n m s le v.one) v.bound }

  -- A step that grants the key nothing.
  pub invariant_keeps : (at : Nanos) (s t : Shard) {g : B.History} → Keeps c h k at s t → Invariant c B h k at s g → Invariant c B h k at t g
  invariant_keeps at s t kept v = record { one = omega (arith, kept.fewer, v.one); bound = holds_of_more c B at (kept.more v.one) v.bound }

-- A slot that comes in where there is room: another hash's takes nothing away; the key's own, where the shard had nothing of the hash, is all there is.
module _ (c : BucketConfig) (h k : ℕ) (at : Nanos) (s : Shard) (slot : Slot) (room : s.slots.count < cap_of s) where
  other_slot_inserted : (slot.hash ≡ h → ⊥) → Keeps c h k at s (insert s slot)
  other_slot_inserted other = record {
    fewer = omega (arith, count_inserted h k s slot room, weight_other h k slot other);
    more = λ single. omega (arith, shortage_inserted c h at s slot room);
  }

  own_slot_inserted : (B : BoundOf c) {g : B.History} → slot.hash ≡ h → slot.key ≡ k → count h k s ≤ 0 → HoldsAt c B at (shortfall_at c slot.bucket at) g
      → Invariant c B h k at (insert s slot) g
  own_slot_inserted B hash key none holds = record {
    one = omega (arith, count_inserted h k s slot room, weight_own h k slot hash key);
    bound = holds_of_more c B at (omega (arith, shortage_inserted c h at s slot room, short_own c h at slot hash)) holds;
  }

-- A slot that gets another bucket, likewise.
module _ (c : BucketConfig) (h k : ℕ) (at : Nanos) (s : Shard) (u : Sound s) {i : ℕ} {b : BucketCore} {slot : Slot} (r : Rebucketed (slot_at s i) b slot) where
  other_slot_changed : {hash key : ℕ} → Holding s hash key i → (hash ≡ h → ⊥) → Keeps c h k at s (with_slot s i slot)
  other_slot_changed f other =
      let before : (slot_at s i).hash ≡ h → ⊥ = λ own. other (sym f.hash ∙ own) in
      let after : slot.hash ≡ h → ⊥ = λ own. before (sym r.hash ∙ own) in
      record {
        fewer = omega (arith, count_stored h k s i slot u f.below, weight_other h k slot after);
        more = λ single. omega (arith, shortage_stored c h at s i slot u f.below, short_other c h at (slot_at s i) before);
      }

  pub own_slot_changed : (B : BoundOf c) {g : B.History} → Holding s h k i → count h k s ≤ 1 → HoldsAt c B at (shortfall_at c b at) g
      → Invariant c B h k at (with_slot s i slot) g
  own_slot_changed B {g} f single holds =
      let all : OneSlot c h k at s i = one_slot_is_all c h k at s i u f single in
      let lacks : HoldsAt c B at (shortfall_at c slot.bucket at) g = rw r.bucket holds in
      let hash : slot.hash ≡ h = r.hash ∙ f.hash in
      record {
        one = omega (
          arith,
          all.single,
          count_stored h k s i slot u f.below,
          weight_own h k (slot_at s i) f.hash f.key,
          weight_own h k slot hash (r.key ∙ f.key),
        );
        bound = holds_of_more c B at
            (omega (arith, all.all, shortage_stored c h at s i slot u f.below, short_own c h at (slot_at s i) f.hash, short_own c h at slot hash)) lacks;
      }

module _ (c : BucketConfig) (h k : ℕ) (at : Nanos) (s : Shard) (u : Sound s) where
  -- Slots and debts of other hashes that go or change.
  other_slot_removed : (i : ℕ) → i < s.slots.count → ((slot_at s i).hash ≡ h → ⊥) → Keeps c h k at s (remove_at s i)
  other_slot_removed i below other = record {
    fewer = omega (arith, count_removed h k s i u below);
    more = λ single. omega (arith, shortage_removed c h at s i u below, short_other c h at (slot_at s i) other);
  }

  other_debt_taken : (hash : ℕ) → (hash ≡ h → ⊥) → Keeps c h k at s (with_ledger s (Ledger.taken s.ledger hash).after)
  other_debt_taken hash other = record {
    fewer = omega (arith, Debts.taking_another_keeps h Debts.one s.ledger u.ledger hash other);
    more = λ single. omega (arith, Debts.taking_another_keeps h (unpaid c at) s.ledger u.ledger hash other);
  }

  other_debt_paid : (hash cost : ℕ) → (hash ≡ h → ⊥) → Keeps c h k at s (with_ledger s (Ledger.paid_down s.ledger hash cost c).after)
  other_debt_paid hash cost other = record {
    fewer = omega (arith, Debts.paying_another_keeps h Debts.one s.ledger u.ledger hash cost c other);
    more = λ single. omega (arith, Debts.paying_another_keeps h (unpaid c at) s.ledger u.ledger hash cost c other);
  }

  -- The key without a slot takes its own debt out: nothing of the hash is left in the shard, and what was held is what that debt lacks.
  record OwnDebtTaken (debt : Outcome (Option Nanos) Ledger.Ledger) : Type 0 where
    none : count h k (with_ledger s debt.after) ≡ 0
    all : shortage c h at s ≡ Debts.worth (unpaid c at) debt.answer

  own_debt_taken : Complete s → place_of s h k ≡ None → count h k s ≤ 1 → OwnDebtTaken (Ledger.taken s.ledger h)
  own_debt_taken complete new single =
      let l : Ledger.Ledger = s.ledger in
      let empty : Debts.owed h Debts.one (Ledger.taken l h).after ≡ 0 = Debts.taking_leaves_none l h u.ledger complete.ledger (omega (arith, single)) in
      record {
        none = omega (arith, nowhere_weighs_nothing c h k s complete new single);
        all = omega (
          arith,
          nowhere_holds_the_debt c h k at s complete new single,
          Debts.taking_lowers_by_what_it_tells h (unpaid c at) l u.ledger,
          Debts.none_owed_nothing_owed h (unpaid c at) (Ledger.taken l h).after empty,
        );
      }

-- Requests, under a policy that forgets no debt.
module _ (p : Policy) (id : Identity) (request : Request) (cost : ℕ) (at : Nanos) (s : Shard) (a : Accepted p.config) (early : at.0 ≤ 2 ^ 62)
    (never : p.forget_debt ≡ false) (u : Sound s) where
  -- Room that was made for a new key: there is place for its slot, and no debt was lost for it.
  room_for_slot : (room_for p id at s).answer ≡ Ok tt → (room_for p id at s).after.slots.count < cap_of (room_for p id at s).after
  room_for_slot = room_made_leaves_room p at (debt_taken id s) (debt_taken_sound id s u)

  room_loses_nothing : (h k : ℕ) → Keeps p.config h k at (debt_taken id s) (room_for p id at s).after
  room_loses_nothing = room_keeps_shortage p at (debt_taken id s) (debt_taken_sound id s u) a early never

  -- A request for a key of another hash loses nothing, whatever it is answered.
  pub other_request : (h k : ℕ) → (id.hash ≡ h → ⊥) → Keeps p.config h k at s (with_or_insert p id request cost at s).after
  other_request h k other = go (ask_cases p id request cost at s u)
    where
      c : BucketConfig
      c = p.config

      kept : Keeps c h k at s (room_for p id at s).after
      kept = keeps_trans c h k at s (debt_taken id s) (room_for p id at s).after (other_debt_taken c h k at s u id.hash other) (room_loses_nothing h k)

      go : {o : Outcome BucketDecision Shard} → Asking p id request cost at s o → Keeps c h k at s o.after
      go (slot_asked i slot e f r) = other_slot_changed c h k at s u r f other
      go (key_joins e made) =
          keeps_trans c h k at s (room_for p id at s).after _ kept (other_slot_inserted c h k at (room_for p id at s).after _ (room_for_slot made) other)
      go (no_space_lem wait e no_debt_lem told) = room_keeps_shortage p at s u a early never h k

  -- The key's own request: its slot is asked, or it comes in with the bucket that its debt left it; then that slot is all there is of the hash, and what it
  -- lacks bounds what happened.
  own_request_of_identity : Complete s → StampsBy at.0 s → (B : BoundOf p.config) {g : B.History} → 1 ≤ cost → cost ≤ p.config.capacity
      → longest_wait request ≤ 2 ^ 46
      → Invariant p.config B id.hash id.key at s g
      → Invariant p.config B id.hash id.key at (with_or_insert p id request cost at s).after
      (decision_adds B at cost (with_or_insert p id request cost at s).answer g)
  own_request_of_identity complete past B {g} some within_burst longest v = go (ask_cases p id request cost at s u)
    where
      c : BucketConfig
      c = p.config

      h : ℕ
      h = id.hash

      k : ℕ
      k = id.key

      debt : Outcome (Option Nanos) Ledger.Ledger
      debt = Ledger.taken s.ledger h

      asked_bounds : (b : BucketCore) → b.stamp.0 ≤ at.0 → shortage c h at s ≤ shortfall_at c b at
          → HoldsAt c B at (shortfall_at c (asked c request b cost at).bucket at) (decision_adds B at cost (asked c request b cost at).decision g)
      asked_bounds b passed lacks = asked_keeps_bound c B request b cost at a some within_burst longest passed (holds_of_more c B at lacks v.bound)

      go : {o : Outcome BucketDecision Shard} → Asking p id request cost at s o → Invariant c B h k at o.after (decision_adds B at cost o.answer g)
      go (slot_asked i slot e f r) =
          let all : OneSlot c h k at s i = one_slot_is_all c h k at s i u f v.one in
          own_slot_changed c h k at s u r B f v.one (asked_bounds (slot_at s i).bucket (past i f.below) (omega (arith, all.all)))
      go (key_joins e made) =
          let gone : OwnDebtTaken c h k at s u debt = own_debt_taken c h k at s u complete e v.one in
          own_slot_inserted c h k at (room_for p id at s).after _ (room_for_slot made) B refl refl (omega (arith, (room_loses_nothing h k).fewer, gone.none))
          (asked_bounds (returning c at debt.answer) (returning_stamp c at debt.answer a)
          (omega (arith, gone.all, returning_lacks_the_debt c at a debt.answer)))
      go (no_space_lem wait e no_debt_lem told) = invariant_keeps c B h k at s _ (room_keeps_shortage p at s u a early never h k) v

-- The same, for a key whose hash and key are known by an equation.
pub own_request : (p : Policy) (id : Identity) (request : Request) (cost : ℕ) (at : Nanos) (s : Shard) → Accepted p.config → at.0 ≤ 2 ^ 62
    → p.forget_debt ≡ false
    → Sound s → Complete s → StampsBy at.0 s → (B : BoundOf p.config) (h k : ℕ) → id.hash ≡ h → id.key ≡ k → 1 ≤ cost → cost ≤ p.config.capacity
    → longest_wait request ≤ 2 ^ 46 → {g : B.History}
    → Invariant p.config B h k at s g
    → Invariant p.config B h k at (with_or_insert p id request cost at s).after (decision_adds B at cost (with_or_insert p id request cost at s).answer g)
own_request p id request cost at s a early never u complete past B h k hash key some within_burst longest v =
    rw (← hash, ← key) (own_request_of_identity p id request cost at s a early never u complete past B some within_burst longest (rw (← hash, ← key) at v))

-- Refunds and removals for other hashes lose nothing, at any moment.
module _ (c : BucketConfig) (h k : ℕ) (at : Nanos) (s : Shard) (u : Sound s) (id : Identity) (other : id.hash ≡ h → ⊥) where
  pub other_refund : (cost : ℕ) → Keeps c h k at s (refunded c id cost s).after
  other_refund cost = go (refund_cases c id cost s)
    where
      go : {o : Outcome Bool Shard} → Refunding c id cost s o → Keeps c h k at s o.after
      go (slot_refunded i slot e f r) = other_slot_changed c h k at s u r f other
      go (debt_paid e) = other_debt_paid c h k at s u id.hash cost other

  pub other_removal : Keeps c h k at s (removed id s).after
  other_removal = go (remove_cases id s)
    where
      kept : Keeps c h k at s (debt_taken id s)
      kept = other_debt_taken c h k at s u id.hash other

      go : {o : Outcome Bool Shard} → Removing id s o → Keeps c h k at s o.after
      go (slot_removed i e f) =
          keeps_trans c h k at s (debt_taken id s) _ kept
          (other_slot_removed c h k at (debt_taken id s) (debt_taken_sound id s u) i f.below (λ own. other (sym f.hash ∙ own)))
      go (no_slot e) = kept
