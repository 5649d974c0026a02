-- Operations on two shards that are alike to a view, in which lookup finds one place for each key, give one answer and leave shards that are alike. Laws above
-- cite `every_operation_alike` and open none of the operations.
use Rattle.std.proofs.Common.{Option, Some, None, Ok, Err}
use Rattle.units.specs.declared.Millis.{Millis}
use Prim.Native.Nat.{ℕ}
use mathlib.Core.Path.{◌≡◌, refl, ap}
use mathlib.Core.Bool.{false}
use lib.Dec.{ltb}
use Rattle.units.specs.declared.Nanos.{Nanos}
use Rattle.bucket.specs.declared.BucketConfig.{BucketConfig}
use Rattle.bucket.specs.declared.BucketCore.{BucketCore}
use Rattle.bucket.specs.declared.Request.{Request}
use Rattle.bucket.specs.Bucket as Bucket
use Rattle.settings.specs.Eviction.{ttl_sweep, ledger_scan}
use Rattle.held.proofs.AlikeLaws.{SameOutcome, alike_by_test}
use Rattle.slot.specs.declared.Slot.{Slot}
use Rattle.ledger.specs.Model as Ledger
use Rattle.shard_map.specs.Model.{Shard, cap_of, place_of}
use Rattle.shard_map.proofs.AlikeLaws.{View, AlikeShards, slot_alike, ledger_alike, change_alike, removal_alike, insert_alike, sweep_idle_alike}
use Rattle.evict.specs.Evict.{Room}
use Rattle.evict.proofs.AlikeLaws.{evict_alike}
use Rattle.shard.specs.declared.Identity.{Identity}
use Rattle.shard.specs.declared.Policy.{Policy}
use Rattle.shard.specs.Model.{tracks, with_existing, idle_limit_in, swept_idle, swept, make_room, put_back, admitted, admit, asked_from, with_or_insert}
use Rattle.shard.specs.Model.{returning, viewed_from, viewed, turned_away_at, turn_aways, has_debt, holds, refunded_from, refunded, removed_from, removed}
use Rattle.shard.proofs.ShardLaws.{debt_taken, room_for}

module _ (v : View) where
  abbrev Like : Shard → Shard → Type 0
  Like = AlikeShards v

  -- Making room: the sweeps, and an eviction if the shard is full.
  swept_idle_alike : (p : Policy) (at : Nanos) {s t : Shard} → Like s t → (limit : Option Millis) → Like (swept_idle p at s limit) (swept_idle p at t limit)
  swept_idle_alike p at like None = like
  swept_idle_alike p at like (Some limit) = sweep_idle_alike v like p.config at limit ttl_sweep

  swept_alike : (p : Policy) (at : Nanos) {s t : Shard} → Like s t → Like (swept p at s) (swept p at t)
  swept_alike p at like =
      let idle = swept_idle_alike p at like (idle_limit_in p) in
      ledger_alike v idle (v.ledgers.sweeps idle.ledger at ledger_scan)

  room_alike : (p : Policy) (at : Nanos) {s t : Shard} → Like s t → SameOutcome Like (make_room p at s) (make_room p at t)
  unfolding make_room
  room_alike p at {s} {t} like =
      let left : Like (swept p at s) (swept p at t) = swept_alike p at like in
      let free : ltb (swept p at s).slots.count (cap_of (swept p at s)) ≡ ltb (swept p at t).slots.count (cap_of (swept p at t)) =
      rw (v.ways.count left.slots, v.ways.room left.slots) in
      alike_by_test (SameOutcome Like) _ free (record { answer = refl; after = left }) (evict_alike v p.config at p.forget_debt left)

  -- A request: a known key's; and a new key's, with room made or refused.
  module _ (p : Policy) (id : Identity) (request : Request) (cost : ℕ) (at : Nanos) where
    existing_alike : {s t : Shard} → Like s t → (i : ℕ) → SameOutcome Like (with_existing p request cost at s i) (with_existing p request cost at t i)
    unfolding with_existing
    existing_alike like i =
        let slot = slot_alike v like {p = i} refl in
        let bucket = (v.reads slot).bucket in
        record {
          answer = ap (λ (b : BucketCore). (Bucket.asked p.config request b cost at).decision) bucket;
          after = change_alike v like refl
              (v.asks (v.touches slot at (tracks p.idle_ttl)) (ap (λ (b : BucketCore). Bucket.asked p.config request b cost at) bucket));
        }

    put_back_alike : {s t : Shard} → Like s t → (owed : Option Nanos) → Like (put_back id.hash at owed s) (put_back id.hash at owed t)
    put_back_alike like None = like
    put_back_alike like (Some settles) =
        ledger_alike v like (v.ledgers.records like.ledger (record { hash = id.hash; settles = settles }) at false).after

    admitted_alike : {s t : Shard} → Like s t → (owed : Option Nanos) (room : Room)
        → SameOutcome Like (admitted p id request cost at owed s room) (admitted p id request cost at owed t room)
    admitted_alike like owed (Ok _) = record { answer = refl; after = insert_alike v like _ }
    admitted_alike like owed (Err due) = record { answer = refl; after = put_back_alike like owed }

    admit_alike : {s t : Shard} → Like s t → SameOutcome Like (admit p id request cost at s) (admit p id request cost at t)
    unfolding admit
    admit_alike {s} {t} like =
        let own = v.ledgers.takes like.ledger id.hash in
        let room : SameOutcome Like (room_for p id at s) (room_for p id at t) = room_alike p at (ledger_alike v like own.after) in
        rw (own.answer, room.answer) (admitted_alike room.after (Ledger.taken t.ledger id.hash).answer (room_for p id at t).answer)

  -- The operations of a key, where lookup finds one place in both.
  module _ {s t : Shard} (like : Like s t) (id : Identity) (found : place_of s id.hash id.key ≡ place_of t id.hash id.key) where
    ask_alike : (p : Policy) (request : Request) (cost : ℕ) (at : Nanos)
        → SameOutcome Like (with_or_insert p id request cost at s) (with_or_insert p id request cost at t)
    unfolding with_or_insert
    ask_alike p request cost at = rw found (go (place_of t id.hash id.key))
      where
        go : (place : Option ℕ) → SameOutcome Like (asked_from p id request cost at s place) (asked_from p id request cost at t place)
        go (Some i) = existing_alike p id request cost at like i
        go None = admit_alike p id request cost at like

    view_alike : (c : BucketConfig) (at : Nanos) → viewed c id at s ≡ viewed c id at t
    unfolding viewed
    view_alike c at = rw found (go (place_of t id.hash id.key))
      where
        go : (place : Option ℕ) → viewed_from c id at s place ≡ viewed_from c id at t place
        go (Some i) = (v.reads (slot_alike v like refl)).bucket
        go None = ap (returning c at) (v.ledgers.owed like.ledger id.hash)

    holds_alike : holds id s ≡ holds id t
    unfolding holds
    holds_alike = rw (found, v.ledgers.owed like.ledger id.hash)

    refund_alike : (c : BucketConfig) (cost : ℕ) → SameOutcome Like (refunded c id cost s) (refunded c id cost t)
    unfolding refunded
    refund_alike c cost = rw found (go (place_of t id.hash id.key))
      where
        go : (place : Option ℕ) → SameOutcome Like (refunded_from c id cost s place) (refunded_from c id cost t place)
        go (Some i) =
            let slot = slot_alike v like {p = i} refl in
            record {
              answer = refl;
              after = change_alike v like refl
                  (v.refills slot (ap (λ (b : BucketCore). Bucket.refunded c b cost) (v.reads slot).bucket));
            }
        go None =
            let paid = v.ledgers.pays like.ledger id.hash cost c in
            record { answer = paid.answer; after = ledger_alike v like paid.after }

    remove_alike : SameOutcome Like (removed id s) (removed id t)
    unfolding removed
    remove_alike = rw (found, own.answer) (go (place_of t id.hash id.key))
      where
        own : SameOutcome v.Ledgers (Ledger.taken s.ledger id.hash) (Ledger.taken t.ledger id.hash)
        own = v.ledgers.takes like.ledger id.hash

        left : Like (debt_taken id s) (debt_taken id t)
        left = ledger_alike v like own.after

        go : (place : Option ℕ) → SameOutcome Like (removed_from (debt_taken id s) (has_debt (Ledger.taken t.ledger id.hash).answer) place)
            (removed_from (debt_taken id t) (has_debt (Ledger.taken t.ledger id.hash).answer) place)
        go (Some i) = record { answer = refl; after = removal_alike v left i }
        go None = record { answer = refl; after = left }

    -- The count is the same too, for a view that tells counts apart.
    pub count_alike : ((x y : Slot) → v.Same x y → x.turned_away ≡ y.turned_away) → turn_aways id s ≡ turn_aways id t
    unfolding turn_aways
    count_alike counts = rw found (go (place_of t id.hash id.key))
      where
        go : (place : Option ℕ) → turned_away_at s place ≡ turned_away_at t place
        go (Some i) = rw (counts _ _ (slot_alike v like {p = i} refl))
        go None = refl

-- So it is for every operation, the look at a count apart.
pub record EveryOperationAlike (v : View) (s t : Shard) : Type 0 where
  pub asks : (p : Policy) (id : Identity) (request : Request) (cost : ℕ) (at : Nanos)
      → SameOutcome (AlikeShards v) (with_or_insert p id request cost at s) (with_or_insert p id request cost at t)
  pub refunds : (c : BucketConfig) (id : Identity) (cost : ℕ) → SameOutcome (AlikeShards v) (refunded c id cost s) (refunded c id cost t)
  pub removes : (id : Identity) → SameOutcome (AlikeShards v) (removed id s) (removed id t)
  pub views : (c : BucketConfig) (id : Identity) (at : Nanos) → viewed c id at s ≡ viewed c id at t
  pub tells : (id : Identity) → holds id s ≡ holds id t

pub every_operation_alike : (v : View) {s t : Shard} → AlikeShards v s t → ((h k : ℕ) → place_of s h k ≡ place_of t h k) → EveryOperationAlike v s t
every_operation_alike v like found = record {
  asks = λ p id. ask_alike v like id (found id.hash id.key) p;
  refunds = λ c id. refund_alike v like id (found id.hash id.key) c;
  removes = λ id. remove_alike v like id (found id.hash id.key);
  views = λ c id. view_alike v like id (found id.hash id.key) c;
  tells = λ id. holds_alike v like id (found id.hash id.key);
}
