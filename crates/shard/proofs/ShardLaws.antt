-- How a request, a refund and a removal end, by cases, and that each leaves a sound shard with the same room. Laws above go by these cases and open none of
-- the operations.
use Rattle.std.proofs.Common.{Option, Some, None, Ok, Err}
use Prim.Native.Nat.{ℕ, ◌≤◌, ◌<◌}
use native.Mathlib.Omega.{arith}
use mathlib.Core.Path.{◌≡◌, refl, sym, ◌∙◌, ap}
use mathlib.Core.Bool.{Bool, true}
use Rattle.units.specs.declared.Nanos.{Nanos}
use Rattle.bucket.specs.declared.BucketConfig.{BucketConfig}
use Rattle.bucket.specs.declared.Due.{Due}
use Rattle.bucket.specs.declared.BucketCore.{BucketCore}
use Rattle.bucket.specs.declared.BucketDecision.{BucketDecision}
use Rattle.bucket.specs.declared.BucketDecision.TheVariants.{Denied}
use Rattle.bucket.specs.declared.Request.{Request}
use Rattle.bucket.specs.Bucket as Bucket
use Rattle.rows.specs.Outcome.{Outcome, outcome}
use Rattle.settings.specs.Eviction.{ttl_sweep, ledger_scan}
use Rattle.held.specs.Held.{Held}
use Rattle.held.proofs.SingleLaws.{ComesFrom, lacks_stays, comes_from_refl, comes_from_trans}
use Rattle.slot.specs.declared.Slot.{Slot}
use Rattle.ledger.specs.Model as Ledger
use Rattle.ledger.proofs.StepLaws as LedgerSteps
use Rattle.ledger.proofs.StepLaws.{found_owes, taken_cases, taken_room, paid_room}
use Rattle.ledger.proofs.LookupLaws.{taken_tells}
use Rattle.shard_map.specs.Model.{Shard, Sound, cap_of, insert, slot_items, slot_at, with_slot, with_ledger, in_ledger, place_of, remove_at}
use Rattle.shard_map.proofs.StepLaws.{Holding, found_holds, ledger_sound}
use Rattle.shard_map.proofs.RoomLaws.{identity_of, found_is_complete, SlotsFrom, nowhere_lacks, sweep_idle_slots_from, same_room_trans, ledger_same_room}
use Rattle.shard_map.proofs.RoomLaws.{same_room}
use Rattle.shard_map.proofs.RoomLaws.{change_same_room, removal_same_room, idle_same_room, insert_same_room}
pub use Rattle.shard_map.proofs.RoomLaws.{SameRoom}
use Rattle.evict.specs.Evict.{Room}
use Rattle.evict.proofs.CaseLaws.{made_is_no_refusal}
use Rattle.evict.proofs.RoomLaws.{evict_slots_from, evict_same_room}
use Rattle.shard.specs.declared.Identity.{Identity}
use Rattle.shard.specs.declared.Policy.{Policy}
use Rattle.shard.specs.Model.{with_existing, make_room, joined, admitted, admit, asked_from, with_or_insert, has_debt, refunded_from, refunded, removed_from}
use Rattle.shard.specs.Model.{put_back, removed}
use Rattle.shard.proofs.RoomLaws.{room_keeps, room_made_leaves_room, room_below_ledger_cap_never_refuses}

-- A slot of the same key, with a bucket that is given. Its mark and its last-seen may be any.
pub record Rebucketed (old : Slot) (b : BucketCore) (slot : Slot) : Type 0 where
  pub hash : slot.hash ≡ old.hash
  pub key : slot.key ≡ old.key
  pub bucket : slot.bucket ≡ b

-- The shard once the debt of a key's hash was taken out, and the room that is made in it.
abbrev pub debt_taken : Identity → Shard → Shard
debt_taken id s = with_ledger s (Ledger.taken s.ledger id.hash).after

abbrev pub room_for : Policy → Identity → Nanos → Shard → Outcome Room Shard
room_for p id at s = make_room p at (debt_taken id s)

pub debt_taken_sound : (id : Identity) (s : Shard) → Sound s → Sound (debt_taken id s)
debt_taken_sound id s u = ledger_sound s _ u ((taken_room s.ledger id.hash).sound u.ledger)

-- How a request ends: the key's slot is asked; the key is new, and joins once there is room; or there is no room. A key that is refused for space has
-- neither a slot nor a debt, so no debt was taken out and none is put back: what is left is what making room left.
pub data Asking (p : Policy) (id : Identity) (request : Request) (cost : ℕ) (at : Nanos) (s : Shard) : Outcome BucketDecision Shard → Type 0 where
  slot_asked : (i : ℕ) (slot : Slot) → place_of s id.hash id.key ≡ Some i → Holding s id.hash id.key i
      → Rebucketed (slot_at s i) (Bucket.asked p.config request (slot_at s i).bucket cost at).bucket slot
      → Asking p id request cost at s (outcome (Bucket.asked p.config request (slot_at s i).bucket cost at).decision (with_slot s i slot))
  key_joins : place_of s id.hash id.key ≡ None → (room_for p id at s).answer ≡ Ok tt
      → Asking p id request cost at s (joined p id request cost at (Ledger.taken s.ledger id.hash).answer (room_for p id at s).after)
  no_space_lem : (due : Due) → place_of s id.hash id.key ≡ None → Ledger.owed_by s.ledger id.hash ≡ None → (make_room p at s).answer ≡ Err due
      → Asking p id request cost at s (outcome (Denied due) (make_room p at s).after)

-- Where room is refused no debt was taken out: one that was taken out would have left the ledger below its cap.
pub refused_took_nothing : (p : Policy) (id : Identity) (at : Nanos) (s : Shard) (due : Due) → Sound s → (room_for p id at s).answer ≡ Err due
    → Ledger.taken s.ledger id.hash ≡ outcome None s.ledger
refused_took_nothing p id at s due u =
    taken_cases s.ledger id.hash (λ o. (make_room p at (with_ledger s o.after)).answer ≡ Err due → o ≡ outcome None s.ledger)
    (λ q e told.
    let l : Ledger.Ledger = Ledger.remove_at s.ledger q in
    let below : l.debts.count < Ledger.cap_of l =
    LedgerSteps.removal_leaves_room s.ledger q u.ledger.count_fits (found_owes s.ledger id.hash q e).below in
    let sound : Sound (with_ledger s l) =
    ledger_sound s l u ((LedgerSteps.removal_room s.ledger q (found_owes s.ledger id.hash q e).below).sound u.ledger) in
    made_is_no_refusal (sym (room_below_ledger_cap_never_refuses p at (with_ledger s l) sound below) ∙ told))
    (λ e told. refl)

module _ (p : Policy) (id : Identity) (request : Request) (cost : ℕ) (at : Nanos) (s : Shard) (u : Sound s) where
  -- The touch of a known key alters neither its identity nor its bucket.
  known_cases : (i : ℕ) → place_of s id.hash id.key ≡ Some i → Asking p id request cost at s (with_existing p request cost at s i)
  unfolding with_existing
  known_cases i e = slot_asked i _ e (found_holds s id.hash id.key i e) (record { hash = refl; key = refl; bucket = refl })

  new_cases : place_of s id.hash id.key ≡ None → Asking p id request cost at s (admit p id request cost at s)
  unfolding admit
  new_cases e = go (room_for p id at s).answer refl
    where
      go : (answer : Room) → (room_for p id at s).answer ≡ answer
          → Asking p id request cost at s (admitted p id request cost at (Ledger.taken s.ledger id.hash).answer (room_for p id at s).after answer)
      go (Ok _) made = key_joins e made
      go (Err due) told =
          let nothing : Ledger.taken s.ledger id.hash ≡ outcome None s.ledger = refused_took_nothing p id at s due u told in
          let no_debt_lem : Ledger.owed_by s.ledger id.hash ≡ None =
          sym (taken_tells s.ledger id.hash) ∙ ap (λ (o : Outcome (Option Nanos) Ledger.Ledger). o.answer) nothing in
          rw nothing (no_space_lem due e no_debt_lem (rw nothing at told))

  -- The cases of a request.
  pub ask_cases : Asking p id request cost at s (with_or_insert p id request cost at s)
  unfolding with_or_insert
  ask_cases = go (place_of s id.hash id.key) refl
    where
      go : (place : Option ℕ) → place_of s id.hash id.key ≡ place → Asking p id request cost at s (asked_from p id request cost at s place)
      go (Some i) e = known_cases i e
      go None e = new_cases e

-- How a refund ends: the slot's bucket is refunded, or the debt of the hash, if there is one, is paid down.
pub data Refunding (c : BucketConfig) (id : Identity) (cost : ℕ) (s : Shard) : Outcome Bool Shard → Type 0 where
  slot_refunded : (i : ℕ) (slot : Slot) → place_of s id.hash id.key ≡ Some i → Holding s id.hash id.key i
      → Rebucketed (slot_at s i) (Bucket.refunded c (slot_at s i).bucket cost) slot → Refunding c id cost s (outcome true (with_slot s i slot))
  debt_paid : place_of s id.hash id.key ≡ None → Refunding c id cost s (in_ledger s (Ledger.paid_down s.ledger id.hash cost c))

pub refund_cases : (c : BucketConfig) (id : Identity) (cost : ℕ) (s : Shard) → Refunding c id cost s (refunded c id cost s)
unfolding refunded
refund_cases c id cost s = go (place_of s id.hash id.key) refl
  where
    go : (place : Option ℕ) → place_of s id.hash id.key ≡ place → Refunding c id cost s (refunded_from c id cost s place)
    go (Some i) e = slot_refunded i _ e (found_holds s id.hash id.key i e) (record { hash = refl; key = refl; bucket = refl })
    go None e = debt_paid e

-- How a removal ends: the debt of the hash is gone, and the slot too if there is one.
pub data Removing (id : Identity) (s : Shard) : Outcome Bool Shard → Type 0 where
  slot_removed : (i : ℕ) → place_of s id.hash id.key ≡ Some i → Holding s id.hash id.key i → Removing id s (outcome true (remove_at (debt_taken id s) i))
  no_slot : place_of s id.hash id.key ≡ None → Removing id s (outcome (has_debt (Ledger.taken s.ledger id.hash).answer) (debt_taken id s))

pub remove_cases : (id : Identity) (s : Shard) → Removing id s (removed id s)
unfolding removed
remove_cases id s = go (place_of s id.hash id.key) refl
  where
    go : (place : Option ℕ) → place_of s id.hash id.key ≡ place
        → Removing id s (removed_from (debt_taken id s) (has_debt (Ledger.taken s.ledger id.hash).answer) place)
    go (Some i) e = slot_removed i e (found_holds s id.hash id.key i e)
    go None e = no_slot e

-- Making room keeps what every step keeps, and its slots come from those before.
module _ (p : Policy) (at : Nanos) (s : Shard) (u : Sound s) where
  room_same_room : SameRoom s (make_room p at s).after
  room_same_room =
      room_keeps p at s u (SameRoom s)
      (record {
        idle = λ t limit v room. same_room_trans room (idle_same_room t v p.config at limit ttl_sweep);
        ledger = λ t v room. same_room_trans room (ledger_same_room t v _ (LedgerSteps.sweep_room at ledger_scan t.ledger));
      })
      (λ t v some room. same_room_trans room (evict_same_room p.config at p.forget_debt t v some))
      (same_room s u)

  room_slots_from : SlotsFrom s (make_room p at s).after
  room_slots_from =
      room_keeps p at s u (SlotsFrom s)
      (record { idle = λ t limit v from. trans from (sweep_idle_slots_from t v p.config at limit ttl_sweep); ledger = λ t v from. from })
      (λ t v some from. trans from (evict_slots_from p.config at p.forget_debt t v some))
      (comes_from_refl slot_items identity_of s.slots)
    where
      trans : {h g f : Held Slot} → ComesFrom slot_items identity_of h g → ComesFrom slot_items identity_of g f → ComesFrom slot_items identity_of h f
      trans = comes_from_trans slot_items identity_of

-- A debt that goes back into the ledger changes no slot.
put_back_keeps_slots : (hash : ℕ) (at : Nanos) (owed : Option Nanos) (s : Shard) → (put_back hash at owed s).slots ≡ s.slots
put_back_keeps_slots hash at None s = refl
put_back_keeps_slots hash at (Some settles) s = refl

-- And so does every operation, whatever it answers.
module _ (s : Shard) (u : Sound s) where
  taken_same_room : (id : Identity) → SameRoom s (debt_taken id s)
  taken_same_room id = ledger_same_room s u _ (taken_room s.ledger id.hash)

  -- A slot comes only for a key that lookup did not find. Making room brings none in, so no other slot has its hash and its key.
  pub ask_same_room : (p : Policy) (id : Identity) (request : Request) (cost : ℕ) (at : Nanos) → SameRoom s (with_or_insert p id request cost at s).after
  ask_same_room p id request cost at = go (ask_cases p id request cost at s u)
    where
      v : Sound (debt_taken id s)
      v = debt_taken_sound id s u

      go : {o : Outcome BucketDecision Shard} → Asking p id request cost at s o → SameRoom s o.after
      go (slot_asked i slot e f r) = change_same_room s u i slot f.below r.hash r.key
      go (key_joins new made) =
          insert_same_room (same_room_trans (taken_same_room id) (room_same_room p at (debt_taken id s) v)) _
          (room_made_leaves_room p at (debt_taken id s) v made)
          (λ each. lacks_stays slot_items identity_of (room_slots_from p at (debt_taken id s) v) _
          (nowhere_lacks s (found_is_complete each) id.hash id.key new))
      go (no_space_lem due e no_debt_lem told) = room_same_room p at s u

  -- A new key leaves no more slots than there is room for, also where it had a slot already.
  pub admit_count_fits : (p : Policy) (id : Identity) (request : Request) (cost : ℕ) (at : Nanos) → (admit p id request cost at s).after.slots.count ≤ cap_of s
  unfolding admit insert
  admit_count_fits p id request cost at = go (room_for p id at s).answer refl
    where
      v : Sound (debt_taken id s)
      v = debt_taken_sound id s u

      room : SameRoom (debt_taken id s) (room_for p id at s).after
      room = room_same_room p at (debt_taken id s) v

      owed : Option Nanos
      owed = (Ledger.taken s.ledger id.hash).answer

      go : (answer : Room) → (room_for p id at s).answer ≡ answer
          → (admitted p id request cost at owed (room_for p id at s).after answer).after.slots.count ≤ cap_of s
      go (Ok _) made = omega (arith, room_made_leaves_room p at (debt_taken id s) v made, room.cap)
      go (Err due) told = rw (put_back_keeps_slots id.hash at owed (room_for p id at s).after) (omega (arith, room.sound.count_fits, room.cap))

  pub refund_same_room : (c : BucketConfig) (id : Identity) (cost : ℕ) → SameRoom s (refunded c id cost s).after
  refund_same_room c id cost = go (refund_cases c id cost s)
    where
      go : {o : Outcome Bool Shard} → Refunding c id cost s o → SameRoom s o.after
      go (slot_refunded i slot e f r) = change_same_room s u i slot f.below r.hash r.key
      go (debt_paid e) = ledger_same_room s u _ (paid_room s.ledger id.hash cost c)

  pub remove_same_room : (id : Identity) → SameRoom s (removed id s).after
  remove_same_room id = go (remove_cases id s)
    where
      go : {o : Outcome Bool Shard} → Removing id s o → SameRoom s o.after
      go (slot_removed i e f) = same_room_trans (taken_same_room id) (removal_same_room (debt_taken id s) (debt_taken_sound id s u) i f.below)
      go (no_slot e) = taken_same_room id
