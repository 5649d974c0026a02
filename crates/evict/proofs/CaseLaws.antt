-- How an eviction ends: in one of three ways. Laws about an eviction go by these cases and do not open the walk: what it keeps of the slots and of the ledger,
-- and the room that it makes.
use Rattle.std.proofs.Common.{Ok, Err}
use Prim.Native.Nat.{ℕ, ◌<◌, ◌+◌, ◌≤◌}
use mathlib.Core.Path.{◌≡◌, refl, sym, ◌∙◌, ap}
use mathlib.Core.Bool.{Bool}
use native.Mathlib.Omega.{arith}
use Rattle.units.specs.declared.Nanos.{Nanos}
use Rattle.bucket.specs.declared.BucketConfig.{BucketConfig}
use Rattle.bucket.specs.declared.Due.{Due}
use Rattle.bucket.specs.Bucket.{due_after}
use Rattle.rows.specs.Outcome.{Outcome, outcome}
use Rattle.ledger.specs.Model.{Recorded, no_room}
use Rattle.ledger.specs.Model as Ledger
use Rattle.ledger.proofs.RecordLaws.{recorded_sound, recorded_complete, recorded_room}
use Rattle.evict.specs.declared.Victim.{Victim}
use Rattle.evict.specs.declared.Victim.TheVariants.{Free, Owing}
use Rattle.evict.specs.Evict.{Room}
use Rattle.shard_map.specs.Model.{Shard, Sound, slot_at, with_ledger, hand_of, Complete, slot_items, cap_of, remove_at}
use Rattle.shard_map.proofs.StepLaws.{ledger_sound, removal_count, removal_cap, removal_kind, removal_slots_complete, removal_ledger}
use Rattle.evict.specs.Evict.{Notes, walked, victim_of, evict_at, debt_left, refusal_wait, after_recording, evict_victim, evicted}
use Rattle.evict.proofs.WalkLaws.{FullSlot, VictimIs, walk_chooses, Remarked, remarked_sound, remarked_complete, walk_kept}
use lib.ListN.{length}
use Rattle.held.specs.Held.{Held}
use Rattle.held.specs.Held as Held
use Rattle.held.proofs.FindingLaws.{kind_of}
use Rattle.slot.specs.declared.Slot.{Slot}
use Rattle.ledger.specs.declared.Debt.{Debt}
use Rattle.ledger.proofs.StepLaws.{SameRoom, same_room, same_room_trans}

-- The debt of the slot at p is recorded in the ledger of its shard.
abbrev pub debt_recorded : BucketConfig → Nanos → Bool → Shard → ℕ → Outcome Recorded Ledger.Ledger
debt_recorded c at forget s p = Ledger.recorded s.ledger (debt_left c at (slot_at s p)) at forget

pub debt_recorded_sound : (c : BucketConfig) (at : Nanos) (forget : Bool) (s : Shard) (p : ℕ) → Sound s
    → Sound (with_ledger s (debt_recorded c at forget s p).after)
debt_recorded_sound c at forget s p u = ledger_sound s _ u (recorded_sound s.ledger (debt_left c at (slot_at s p)) at forget u.ledger)

-- The two answers are not one, and there is no third.
pub made_is_no_refusal : {Q : Type 0} {due : Due} → ◌≡◌ {A = Room} (Ok tt) (Err due) → Q
made_is_no_refusal e = let z : ◌≡◌ {A = ℕ} 0 1 = cc in absurd (omega arith)

pub never_refused_is_made : (answer : Room) → ((due : Due) → answer ≡ Err due → ⊥) → answer ≡ Ok tt
never_refused_is_made (Ok _) never = refl
never_refused_is_made (Err due) never = absurd (never due refl)

-- Q, of the slots, is kept by the two steps of an eviction: marks change, and a slot leaves.
pub record KeptByEvictSteps (Q : Held Slot → Type 0) : Type 0 where
  pub remarks : (s t : Shard) → Remarked s t → Q s.slots → Q t.slots
  pub drops : (s : Shard) (p : ℕ) → Sound s → p < s.slots.count → Q s.slots → Q (remove_at s p).slots

module _ (c : BucketConfig) (at : Nanos) (forget : Bool) (s : Shard) (u : Sound s) (some : 0 < s.slots.count) where
  -- The shard that the walk leaves, what it notes, and the recording of a debt after it.
  abbrev left : Shard
  left = (walked c at s).after

  abbrev notes : Notes
  notes = (walked c at s).notes

  abbrev recording : ℕ → Outcome Recorded Ledger.Ledger
  recording p = debt_recorded c at forget left p

  -- A full slot goes; a slot goes once its debt is in the ledger; or none goes, since the ledger had no room.
  pub evict_cases : (P : Outcome Room Shard → Type 0) → ((p : ℕ) → FullSlot c at left p → P (outcome (Ok tt) (evict_at left p)))
      → ((p : ℕ) → p < left.slots.count → (recording p).answer ≡ Ok tt → P (outcome (Ok tt) (evict_at (with_ledger left (recording p).after) p)))
      → ((p : ℕ) (wait : Nanos) → p < left.slots.count → (recording p).answer ≡ no_room wait
      → P (outcome (Err (due_after at (refusal_wait notes.soonest wait))) (with_ledger left (recording p).after))) → P (evicted c at forget s)
  unfolding evicted
  evict_cases P full owing none = by_victim (victim_of (walked c at s).ended notes.full notes.unmarked (hand_of s)) (walk_chooses c at s u some)
    where
      by_record : (p : ℕ) → p < left.slots.count → (answer : Recorded) → (recording p).answer ≡ answer
          → P (after_recording at left p notes.soonest (recording p).after answer)
      by_record p below (Ok _) told = owing p below told
      by_record p below (Err full) told = none p full.wait below told

      by_victim : (v : Victim) → VictimIs c at left v → P (evict_victim c at forget left notes.soonest v)
      by_victim (Free p) is = full p is
      by_victim (Owing p) below = by_record p below (recording p).answer refl

  pub walk_remarks : Remarked s left
  walk_remarks = (walk_kept c at s u some).same

  pub walk_sound : Sound left
  walk_sound = remarked_sound s left walk_remarks u

  -- What those steps keep an eviction keeps; and of the ledger it keeps what a recording keeps.
  pub evict_keeps_slots : (Q : Held Slot → Type 0) → KeptByEvictSteps Q → Q s.slots → Q (evicted c at forget s).after.slots
  evict_keeps_slots Q k q =
      let marked : Q left.slots = k.remarks s left walk_remarks q in
      evict_cases (λ o. Q o.after.slots)
      (λ p full. k.drops left p walk_sound full.below marked)
      (λ p below done. k.drops (with_ledger left (recording p).after) p (debt_recorded_sound c at forget left p walk_sound) below marked)
      (λ p wait below told. marked)

  pub evict_keeps_ledger : (Q : Ledger.Ledger → Type 0) → ((l : Ledger.Ledger) (d : Debt) → Ledger.Sound l → Q l → Q (Ledger.recorded l d at forget).after)
      → Q s.ledger → Q (evicted c at forget s).after.ledger
  evict_keeps_ledger Q records q =
      let same : Q left.ledger = rw walk_remarks.ledger q in
      let recorded : (p : ℕ) → Q (recording p).after = λ p. records left.ledger (debt_left c at (slot_at left p)) walk_sound.ledger same in
      evict_cases (λ o. Q o.after.ledger)
      (λ p full. rw (removal_ledger left p) same)
      (λ p below done. rw (removal_ledger (with_ledger left (recording p).after) p) (recorded p))
      (λ p wait below told. recorded p)

  -- It leaves the same room for slots and for debts, no more slots than there were, and a sound shard.
  pub evict_cap : cap_of (evicted c at forget s).after ≡ cap_of s
  evict_cap =
      evict_keeps_slots (λ h. length h.places ≡ cap_of s)
      (record { remarks = λ t v r same. r.cap ∙ same; drops = λ t p v below same. removal_cap t p ∙ same }) refl

  pub evict_kind : kind_of (evicted c at forget s).after.slots.finding ≡ kind_of s.slots.finding
  evict_kind =
      evict_keeps_slots (λ h. kind_of h.finding ≡ kind_of s.slots.finding)
      (record { remarks = λ t v r same. ap kind_of r.finding ∙ same; drops = λ t p v below same. removal_kind t p ∙ same }) refl

  pub evict_ledger_room : SameRoom s.ledger (evicted c at forget s).after.ledger
  evict_ledger_room = evict_keeps_ledger (SameRoom s.ledger) (λ l d v same. same_room_trans same (recorded_room l d at forget v)) (same_room s.ledger)

  pub evict_count : (evicted c at forget s).after.slots.count ≤ s.slots.count
  evict_count =
      evict_keeps_slots (λ h. h.count ≤ s.slots.count)
      (record { remarks = λ t v r fewer. omega (arith, r.count); drops = λ t p v below fewer. omega (arith, removal_count t p) }) (omega arith)

  pub evict_sound : Sound (evicted c at forget s).after
  evict_sound = record {
    room = omega (arith, evict_cap, u.room);
    count_fits = omega (arith, evict_cap, evict_count, u.count_fits);
    ledger = evict_keeps_ledger Ledger.Sound (λ l d v same. recorded_sound l d at forget v) u.ledger;
  }

  -- Lookup misses no slot and no debt after it, if it missed none before.
  pub evict_complete : Complete s → Complete (evicted c at forget s).after
  evict_complete complete = record {
    slots = evict_keeps_slots (Held.Complete slot_items) (record { remarks = remarked_complete; drops = removal_slots_complete }) complete.slots;
    ledger = evict_keeps_ledger Ledger.Complete (λ l d v q. recorded_complete l d at forget v q) complete.ledger;
  }

  -- Where room was made one slot has gone, so there is room for another.
  pub evict_made_count : (evicted c at forget s).answer ≡ Ok tt → (evicted c at forget s).after.slots.count + 1 ≡ s.slots.count
  evict_made_count =
      evict_cases (λ o. o.answer ≡ Ok tt → o.after.slots.count + 1 ≡ s.slots.count)
      (λ p full made. omega (arith, removal_count left p, full.below, walk_remarks.count))
      (λ p below done made. omega (arith, removal_count (with_ledger left (recording p).after) p, walk_remarks.count))
      (λ p wait below told made. made_is_no_refusal (sym made))

  pub evict_made_leaves_room : (evicted c at forget s).answer ≡ Ok tt → (evicted c at forget s).after.slots.count < cap_of (evicted c at forget s).after
  evict_made_leaves_room made = omega (arith, evict_made_count made, evict_cap, u.count_fits)
