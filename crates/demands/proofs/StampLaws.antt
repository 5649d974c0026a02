-- While time never falls no slot has a stamp after the moment, so no wait has grown. A stamp comes from a call: a slot that comes in has the moment of its
-- call, a grant raises a stamp to the moment of its call, and no other step makes a stamp.
use Rattle.std.proofs.Common.{Option, Some, None}
use Prim.Native.Nat.{ℕ, ◌≤◌, ◌<◌}
use mathlib.Core.Path.{ap}
use mathlib.Core.Bool.{Bool}
use native.Mathlib.Omega.{arith}
use Rattle.arith.proofs.Cases.{by_le, by_eq}
use Rattle.units.specs.declared.Nanos.{Nanos}
use Rattle.units.specs.declared.Millis.{Millis}
use Rattle.units.specs.Units.{millis_of}
use Rattle.bucket.specs.declared.BucketConfig.{BucketConfig}
use Rattle.bucket.specs.declared.BucketCore.{BucketCore}
use Rattle.bucket.specs.declared.BucketDecision.{BucketDecision}
use Rattle.bucket.specs.declared.Request.{Request}
use Rattle.bucket.specs.Bucket.{Accepted, longest_wait, request_wait, asked}
use Rattle.bucket.proofs.BucketLaws.{granted_within_longest, denied_beyond_longest}
use Rattle.bucket.proofs.DebtLaws.{restored_fresh}
use Rattle.rows.specs.Outcome.{Outcome}
use Rattle.held.specs.Held.{Held, item_at}
use Rattle.held.proofs.HeldLaws.{item_stored, item_stored_other, item_appended, item_appended_other}
use Rattle.held.proofs.SingleLaws.{ComesFrom, removed_comes_from, sweep_comes_from}
use Rattle.settings.specs.Eviction.{ttl_sweep}
use Rattle.slot.specs.declared.Slot.{Slot}
use Rattle.slot.specs.Slot.{with_asked, new_slot}
use Rattle.ledger.specs.Model as Ledger
use Rattle.shard_map.specs.Model.{Shard, Sound, slot_items, cap_of, slot_at, with_slot, remove_at, insert, reclaimable, round_of, sweep_idle}
use Rattle.shard_map.proofs.StepLaws.{slots_sound}
use Rattle.evict.specs.Evict.{evicted}
use Rattle.evict.proofs.WalkLaws.{remarked_bucket}
use Rattle.evict.proofs.CaseLaws.{evict_keeps_slots}
use Rattle.shard.specs.declared.Identity.{Identity}
use Rattle.shard.specs.declared.Policy.{Policy}
use Rattle.shard.specs.Model.{returning, make_room, with_or_insert, refunded, removed}
use Rattle.shard.proofs.RoomLaws.{room_keeps, room_made_leaves_room}
use Rattle.shard.proofs.ShardLaws.{debt_taken, room_for, debt_taken_sound, Asking, slot_asked, key_joins, no_space_lem, ask_cases, Refunding, slot_refunded}
use Rattle.shard.proofs.ShardLaws.{debt_paid}
use Rattle.shard.proofs.ShardLaws.{refund_cases, Removing, slot_removed, no_slot, remove_cases}

-- No slot that is held has a stamp after the moment.
abbrev pub HeldStampsBy : ℕ → Held Slot → Type 0
HeldStampsBy n h = (i : ℕ) → i < h.count → (item_at slot_items h i).bucket.stamp.0 ≤ n

abbrev pub StampsBy : ℕ → Shard → Type 0
StampsBy n s = HeldStampsBy n s.slots

-- Time passes.
pub stamps_by_later : (n m : ℕ) (s : Shard) → n ≤ m → StampsBy n s → StampsBy m s
stamps_by_later n m s later past i below = omega (arith, past i below)

-- The single steps: a slot leaves, comes, or is changed.
module _ (n : ℕ) where
  stamps_come_from : {h g : Held Slot} → ComesFrom slot_items (λ (slot : Slot). slot.bucket) h g → HeldStampsBy n h → HeldStampsBy n g
  stamps_come_from from past i below =
      omega (arith, past (from.origin i) (from.below i below), ap (λ (b : BucketCore). b.stamp.0) (from.same i below))

  removal_keeps_stamps : (s : Shard) (p : ℕ) → Sound s → StampsBy n s → StampsBy n (remove_at s p)
  unfolding remove_at
  removal_keeps_stamps s p u past = stamps_come_from (removed_comes_from slot_items _ s.slots p (slots_sound s u)) past

  insert_keeps_stamps : (s : Shard) (slot : Slot) → s.slots.count < cap_of s → slot.bucket.stamp.0 ≤ n → StampsBy n s → StampsBy n (insert s slot)
  unfolding insert
  insert_keeps_stamps s slot room new past i below =
      by_eq i s.slots.count
      (λ last. rw (last, item_appended slot_items s.slots slot room) new)
      (λ other.
      let inner : i < s.slots.count = omega (arith, other) in
      rw (item_appended_other slot_items s.slots slot i inner) (past i inner))

  change_keeps_stamps : (s : Shard) (p : ℕ) (slot : Slot) → p < cap_of s → slot.bucket.stamp.0 ≤ n → StampsBy n s → StampsBy n (with_slot s p slot)
  change_keeps_stamps s p slot inside new past i below =
      by_eq i p
      (λ e. rw (e, item_stored slot_items s.slots p slot inside) new)
      (λ other. rw (item_stored_other slot_items s.slots p slot i other) (past i below))

  sweep_idle_keeps_stamps : (c : BucketConfig) (at : Nanos) (limit : Millis) (looks : ℕ) (s : Shard) → Sound s → StampsBy n s
      → StampsBy n (sweep_idle c at limit looks s)
  unfolding sweep_idle
  sweep_idle_keeps_stamps c at limit looks s u past =
      stamps_come_from (sweep_comes_from slot_items _ (reclaimable c at limit) looks (round_of s) (slots_sound s u)) past

  evict_keeps_stamps : (c : BucketConfig) (at : Nanos) (forget : Bool) (s : Shard) → Sound s → 0 < s.slots.count → StampsBy n s
      → StampsBy n (evicted c at forget s).after
  evict_keeps_stamps c at forget s u some past =
      evict_keeps_slots c at forget s u some (HeldStampsBy n)
      (record {
        remarks = λ t v r stamps i below. rw (remarked_bucket t v r i) (stamps i (omega (arith, r.count)));
        drops = λ t p v below stamps. removal_keeps_stamps t p v stamps;
      })
      past

  room_keeps_stamps : (p : Policy) (at : Nanos) (s : Shard) → Sound s → StampsBy n s → StampsBy n (make_room p at s).after
  room_keeps_stamps p at s u past =
      room_keeps p at s u (StampsBy n)
      (record { idle = λ t limit v stamps. sweep_idle_keeps_stamps p.config at limit ttl_sweep t v stamps; ledger = λ t v stamps. stamps })
      (λ t v some stamps. evict_keeps_stamps p.config at p.forget_debt t v some stamps)
      past

-- A bucket that is asked keeps its stamp, or has the later of it and the moment; one that comes in has the moment.
asked_stamp : (c : BucketConfig) (request : Request) (b : BucketCore) (cost : ℕ) (at : Nanos) → b.stamp.0 ≤ at.0
    → (asked c request b cost at).bucket.stamp.0 ≤ at.0
asked_stamp c request b cost at past =
    by_le (request_wait c request b cost at) (longest_wait request)
    (λ soon. rw (granted_within_longest c request b cost at soon) (omega arith))
    (λ late. rw (denied_beyond_longest c request b cost at late) past)

pub returning_stamp : (c : BucketConfig) (at : Nanos) (owed : Option Nanos) → Accepted c → (returning c at owed).stamp.0 ≤ at.0
returning_stamp c at None a = omega arith
returning_stamp c at (Some settles) a = rw (restored_fresh at settles a) (omega arith)

-- A request at the moment, a refund and a removal.
pub ask_keeps_stamps : (p : Policy) (id : Identity) (request : Request) (cost : ℕ) (at : Nanos) (s : Shard) → Accepted p.config → Sound s
    → StampsBy at.0 s → StampsBy at.0 (with_or_insert p id request cost at s).after
ask_keeps_stamps p id request cost at s a u past = go (ask_cases p id request cost at s u)
  where
    c : BucketConfig
    c = p.config

    go : {o : Outcome BucketDecision Shard} → Asking p id request cost at s o → StampsBy at.0 o.after
    go (slot_asked i slot e f r) =
        let new = asked_stamp c request (slot_at s i).bucket cost at (past i f.below) in
        change_keeps_stamps at.0 s i slot (omega (arith, f.below, u.count_fits)) (rw r.bucket new) past
    go (key_joins e made) =
        let v : Sound (debt_taken id s) = debt_taken_sound id s u in
        let owed : Option Nanos = (Ledger.taken s.ledger id.hash).answer in
        insert_keeps_stamps at.0 (room_for p id at s).after
        (with_asked (new_slot id.hash id.key (returning c at owed) (millis_of at)) (asked c request (returning c at owed) cost at))
        (room_made_leaves_room p at (debt_taken id s) v made)
        (asked_stamp c request (returning c at owed) cost at (returning_stamp c at owed a)) (room_keeps_stamps at.0 p at (debt_taken id s) v past)
    go (no_space_lem due e no_debt_lem told) = room_keeps_stamps at.0 p at s u past

module _ (n : ℕ) (id : Identity) (s : Shard) (u : Sound s) (past : StampsBy n s) where
  pub refund_keeps_stamps : (c : BucketConfig) (cost : ℕ) → StampsBy n (refunded c id cost s).after
  refund_keeps_stamps c cost = go (refund_cases c id cost s)
    where
      go : {o : Outcome Bool Shard} → Refunding c id cost s o → StampsBy n o.after
      go (slot_refunded i slot e f r) = change_keeps_stamps n s i slot (omega (arith, f.below, u.count_fits)) (rw r.bucket (past i f.below)) past
      go (debt_paid e) = past

  pub remove_keeps_stamps : StampsBy n (removed id s).after
  remove_keeps_stamps = go (remove_cases id s)
    where
      go : {o : Outcome Bool Shard} → Removing id s o → StampsBy n o.after
      go (slot_removed i e f) = removal_keeps_stamps n (debt_taken id s) i (debt_taken_sound id s u) past
      go (no_slot e) = past
