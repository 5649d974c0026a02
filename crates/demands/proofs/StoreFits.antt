-- What a request, a refund and a removal leave of a shard that fits 64 bits fits.
use Rattle.std.proofs.Common.{Option, Some, None, Ok, Err}
use Prim.Native.Nat.{ℕ, ◌≤◌, ◌^◌}
use mathlib.Core.Path.{◌≡◌, refl}
use mathlib.Core.Bool.{Bool}
use native.Mathlib.Nat.{div-le_self}
use native.Mathlib.Omega.{arith}
use Rattle.units.specs.declared.Nanos.{Nanos}
use Rattle.units.specs.Units.{nanos_per_milli, millis_of}
use Rattle.bucket.specs.declared.BucketConfig.{BucketConfig}
use Rattle.bucket.specs.declared.BucketCore.{BucketCore}
use Rattle.bucket.specs.declared.BucketOutcome.{BucketOutcome}
use Rattle.bucket.specs.declared.Request.{Request}
use Rattle.bucket.specs.Bucket.{Accepted, asked}
use Rattle.rows.specs.Outcome.{Outcome}
use Rattle.settings.specs.Eviction.{ttl_sweep, ledger_scan}
use Rattle.slot.specs.declared.Slot.{Slot}
use Rattle.slot.specs.Slot.{touched, with_bucket, with_asked, new_slot}
use Rattle.ledger.specs.Model as Ledger
use Rattle.shard_map.specs.Model.{Shard, Sound, slot_at, place_of}
use Rattle.evict.specs.Evict.{Room}
use Rattle.shard.specs.declared.Identity.{Identity}
use Rattle.shard.specs.declared.Policy.{Policy}
use Rattle.shard.specs.Model.{tracks, asked_at, with_existing, make_room, admitted, admit, asked_from, with_or_insert, returning, refunded_from, refunded}
use Rattle.shard.specs.Model.{removed}
use Rattle.shard.proofs.RoomLaws.{room_keeps, room_made_leaves_room}
use Rattle.shard.proofs.ShardLaws.{debt_taken, room_for, debt_taken_sound, refused_took_nothing, Removing, slot_removed, no_slot, remove_cases}
use Rattle.demands.proofs.EveryLaws.{of_either}
use Rattle.demands.proofs.WordFits.{Word}
use Rattle.demands.proofs.BucketFits.{BucketFits, returning_fits, asked_fits}
use Rattle.demands.proofs.BucketFits as Bucket
use Rattle.demands.proofs.LedgerFits.{sweep_fits, taken_fits, paid_fits}
use Rattle.demands.proofs.ShardFits.{SlotFits, ShardFits, slot_at_fits, changed_slot_fits, removed_slot_fits, inserted_slot_fits}
use Rattle.demands.proofs.ShardFits.{changed_ledger_fits, sweep_idle_fits}
use Rattle.demands.proofs.EvictFits.{evicted_fits}

-- A slot with another bucket, one whose bucket was asked, and one that is touched.
rebucketed_fits : (slot : Slot) (b : BucketCore) → SlotFits slot → BucketFits b → SlotFits (with_bucket slot b)
rebucketed_fits slot b f fits = record { hash = f.hash; key = f.key; bucket = fits; mark = f.mark; seen = f.seen; turned_away_met = f.turned_away_met }

asked_slot_fits : (slot : Slot) (o : BucketOutcome) → SlotFits slot → BucketFits o.bucket → SlotFits (with_asked slot o)
asked_slot_fits slot o f fits = record {
  hash = f.hash;
  key = f.key;
  bucket = fits;
  mark = f.mark;
  seen = f.seen;
  turned_away_met = of_either Word o.turns_away _ _ (omega arith) f.turned_away_met;
}

touched_fits : (slot : Slot) (at : Nanos) (track : Bool) → SlotFits slot → Word (millis_of at).0 → SlotFits (touched slot at track)
touched_fits slot at track f stamped = record {
  hash = f.hash;
  key = f.key;
  bucket = f.bucket;
  mark = omega arith;
  seen = of_either Word track _ _ (omega (arith, f.seen)) f.seen;
  turned_away_met = f.turned_away_met;
}

-- A shard once the debt of a hash was taken out.
debt_taken_fits : (id : Identity) (s : Shard) → ShardFits s → ShardFits (debt_taken id s)
debt_taken_fits id s f = changed_ledger_fits s f _ (taken_fits s.ledger id.hash f.ledger)

-- Requests of at most the burst, by a key that fits, at an accepted rate and at a moment that is not too late.
module _ (p : Policy) (id : Identity) (request : Request) (cost : ℕ) (at : Nanos) (a : Accepted p.config) (early : at.0 ≤ 2 ^ 62)
    (within : cost ≤ p.config.capacity) (hash_fits : Word id.hash) (key_fits : Word id.key) where
  stamp_fits : Word (millis_of at).0
  stamp_fits = omega (arith, div-le_self at.0 nanos_per_milli)

  new_slot_fits : (b : BucketCore) → BucketFits b → SlotFits (new_slot id.hash id.key b (millis_of at))
  new_slot_fits b fits = record { hash = hash_fits; key = key_fits; bucket = fits; mark = omega arith; seen = stamp_fits; turned_away_met = omega arith }

  known_fits : (s : Shard) (i : ℕ) → ShardFits s → ShardFits (with_existing p request cost at s i).after
  unfolding with_existing
  known_fits s i f =
      let slot : Slot = touched (slot_at s i) at (tracks p.idle_ttl) in
      let old : SlotFits slot = touched_fits (slot_at s i) at (tracks p.idle_ttl) (slot_at_fits s f i) stamp_fits in
      changed_slot_fits s f i _
      (asked_slot_fits slot (asked_at p slot request cost at) old (asked_fits p.config at a early request _ cost within old.bucket))

  -- Room is made by the two sweeps and an eviction.
  room_fits : (s : Shard) → Sound s → ShardFits s → ShardFits (make_room p at s).after
  room_fits s u f =
      room_keeps p at s u ShardFits
      (record {
        idle = λ t limit v fits. sweep_idle_fits p.config at limit ttl_sweep t fits;
        ledger = λ t v fits. changed_ledger_fits t fits _ (sweep_fits at ledger_scan t.ledger fits.ledger);
      })
      (λ t v some fits. evicted_fits p.config at p.forget_debt t v some fits)
      f

  -- A new key joins where room was made; where none was, it had no debt, and what is left is what making room left.
  new_fits : (s : Shard) → Sound s → ShardFits s → ShardFits (admit p id request cost at s).after
  unfolding admit
  new_fits s u f = go (room_for p id at s).answer refl
    where
      debt : Outcome (Option Nanos) Ledger.Ledger
      debt = Ledger.taken s.ledger id.hash

      returned : BucketFits (returning p.config at debt.answer)
      returned = returning_fits p.config at a early debt.answer

      made_fits : ShardFits (room_for p id at s).after
      made_fits = room_fits (debt_taken id s) (debt_taken_sound id s u) (debt_taken_fits id s f)

      go : (answer : Room) → (room_for p id at s).answer ≡ answer
          → ShardFits (admitted p id request cost at debt.answer (room_for p id at s).after answer).after
      go (Ok _) made =
          let free = room_made_leaves_room p at (debt_taken id s) (debt_taken_sound id s u) made in
          inserted_slot_fits _ made_fits _
          (asked_slot_fits _ (asked p.config request (returning p.config at debt.answer) cost at) (new_slot_fits _ returned)
          (asked_fits p.config at a early request _ cost within returned))
          (omega (arith, free, made_fits.slots.room))
      go (Err wait) told = rw (refused_took_nothing p id at s wait u told) (room_fits s u f)

  pub ask_fits_lem : (s : Shard) → Sound s → ShardFits s → ShardFits (with_or_insert p id request cost at s).after
  unfolding with_or_insert
  ask_fits_lem s u f = go (place_of s id.hash id.key)
    where
      go : (place : Option ℕ) → ShardFits (asked_from p id request cost at s place).after
      go (Some i) = known_fits s i f
      go None = new_fits s u f

-- A refund and a removal.
pub refund_fits : (c : BucketConfig) (id : Identity) (cost : ℕ) (s : Shard) → ShardFits s → ShardFits (refunded c id cost s).after
unfolding refunded
refund_fits c id cost s f = go (place_of s id.hash id.key)
  where
    go : (place : Option ℕ) → ShardFits (refunded_from c id cost s place).after
    go (Some i) =
        let old : SlotFits (slot_at s i) = slot_at_fits s f i in
        changed_slot_fits s f i _ (rebucketed_fits _ _ old (Bucket.refunded_fits c _ cost old.bucket))
    go None = changed_ledger_fits s f _ (paid_fits s.ledger id.hash cost c f.ledger)

pub removal_fits : (id : Identity) (s : Shard) → ShardFits s → ShardFits (removed id s).after
removal_fits id s f = go (remove_cases id s)
  where
    go : {o : Outcome Bool Shard} → Removing id s o → ShardFits o.after
    go (slot_removed i e holding) = removed_slot_fits _ (debt_taken_fits id s f) i holding.below
    go (no_slot e) = debt_taken_fits id s f
