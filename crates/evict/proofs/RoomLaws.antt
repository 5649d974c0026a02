-- What a look, the end of a slot and a recording keep, an eviction keeps. So it keeps what every step on a shard keeps, and its slots come from those before.
use Prim.Native.Nat.{ℕ, zero, suc, ◌<◌}
use mathlib.Core.Path.{refl}
use mathlib.Core.Bool.{Bool}
use native.Mathlib.Omega.{arith}
use Rattle.arith.proofs.Cases.{by_test}
use Rattle.units.specs.declared.Nanos.{Nanos}
use Rattle.bucket.specs.declared.BucketConfig.{BucketConfig}
use Rattle.held.proofs.SingleLaws.{comes_from_refl, comes_from_trans, stored_comes_from}
use Rattle.slot.specs.Slot.{with_mark}
use Rattle.ledger.proofs.RecordLaws.{recorded_room}
use Rattle.shard_map.specs.Model.{Shard, Sound, slot_items, slot_at, with_ledger, hand_of}
use Rattle.shard_map.proofs.StepLaws.{hand_below}
use Rattle.shard_map.proofs.RoomLaws.{identity_of, SlotsFrom, removal_slots_from, SameRoom, same_room_trans, same_room, hand_same_room, ledger_same_room}
use Rattle.shard_map.proofs.RoomLaws.{change_same_room, removal_same_room}
use Rattle.evict.specs.Evict.{Notes, nothing_noted, noted, looked, goes_at_once, walk_from, walked, evict_at, evicted}
use Rattle.evict.proofs.CaseLaws.{debt_recorded, debt_recorded_sound, evict_cases, walk_sound}

pub record KeptByEvictParts (c : BucketConfig) (at : Nanos) (forget : Bool) (Q : Shard → Type 0) : Type 0 where
  pub looks : (s : Shard) → Sound s → 0 < s.slots.count → Q s → Q (looked s (hand_of s))
  pub drops : (s : Shard) (p : ℕ) → Sound s → p < s.slots.count → Q s → Q (evict_at s p)
  pub records : (s : Shard) (p : ℕ) → Sound s → p < s.slots.count → Q s → Q (with_ledger s (debt_recorded c at forget s p).after)

-- A look clears a mark and moves the hand.
look_same_room : (s : Shard) → Sound s → 0 < s.slots.count → SameRoom s (looked s (hand_of s))
look_same_room s u some = hand_same_room (change_same_room s u (hand_of s) (with_mark (slot_at s (hand_of s)) 0) (hand_below s some) refl refl) _

module _ {c : BucketConfig} {at : Nanos} {forget : Bool} {Q : Shard → Type 0} (steps : KeptByEvictParts c at forget Q) where
  walk_from_keeps : (left : ℕ) (s : Shard) (w : Notes) → Sound s → 0 < s.slots.count → Q s → Q (walk_from c at left s w).after
  unfolding walk_from
  walk_from_keeps zero s w u some q = q
  walk_from_keeps (suc left) s w u some q =
      let next : Q (looked s (hand_of s)) = steps.looks s u some q in
      by_test (goes_at_once c at (slot_at s (hand_of s)))
      (λ goes. rw (goes, walk_from) next)
      (λ stays. rw (stays, walk_from)
      (walk_from_keeps left (looked s (hand_of s)) (noted c at w (hand_of s) (slot_at s (hand_of s))) (look_same_room s u some).sound some next))

  pub evict_keeps : (s : Shard) → Sound s → 0 < s.slots.count → Q s → Q (evicted c at forget s).after
  unfolding walked
  evict_keeps s u some q =
      let left : Shard = (walked c at s).after in
      let v : Sound left = walk_sound c at forget s u some in
      let r : Q left = walk_from_keeps _ s nothing_noted u some q in
      evict_cases c at forget s u some (λ o. Q o.after)
      (λ p full. steps.drops left p v full.below r)
      (λ p below done. steps.drops (with_ledger left _) p (debt_recorded_sound c at forget left p v) below (steps.records left p v below r))
      (λ p wait below told. steps.records left p v below r)

module _ (c : BucketConfig) (at : Nanos) (forget : Bool) (s : Shard) (u : Sound s) (some : 0 < s.slots.count) where
  pub evict_slots_from : SlotsFrom s (evicted c at forget s).after
  evict_slots_from =
      evict_keeps {c = c} {at = at} {forget = forget} {Q = SlotsFrom s}
      (record {
        looks = λ t v held from.
            let inside = hand_below t held in
            comes_from_trans slot_items identity_of from (stored_comes_from slot_items identity_of t.slots (hand_of t) _ (omega (arith, v.count_fits)) refl);
        drops = λ t p v below from. comes_from_trans slot_items identity_of from (removal_slots_from t v p);
        records = λ t p v below from. from;
      })
      s u some (comes_from_refl slot_items identity_of s.slots)

  pub evict_same_room : SameRoom s (evicted c at forget s).after
  evict_same_room =
      evict_keeps {c = c} {at = at} {forget = forget} {Q = SameRoom s}
      (record {
        looks = λ t v held room. same_room_trans room (look_same_room t v held);
        drops = λ t p v below room. same_room_trans room (hand_same_room (removal_same_room t v p below) _);
        records = λ t p v below room. same_room_trans room (ledger_same_room t v _ (recorded_room t.ledger _ at forget v.ledger));
      })
      s u some (same_room s u)
