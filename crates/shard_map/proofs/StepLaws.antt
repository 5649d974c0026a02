-- What lookup by hash and key says, and what the steps leave of the room.
use Rattle.std.proofs.Common.{Some, None}
use Prim.Native.Nat.{ℕ, ◌-◌, ◌<◌}
use mathlib.Core.Path.{◌≡◌, refl, sym, ◌∙◌}
use mathlib.Core.Bool.{true, false, true≢false}
use borrow.Author.Tests.{eqb-true}
use Rattle.arith.proofs.Cases.{by_test}
use Rattle.units.specs.declared.Nanos.{Nanos}
use Rattle.units.specs.declared.Millis.{Millis}
use Rattle.units.specs.Units.{millis_of}
use Rattle.bucket.specs.declared.BucketConfig.{BucketConfig}
use Rattle.bucket.specs.Bucket.{shortfall_at}
use Rattle.held.specs.Held as Held
use Rattle.held.specs.Round as Round
use Rattle.held.proofs.RoundLaws as RoundLaws
use Rattle.held.proofs.HeldLaws.{wrapped_below, stored_sound, removed_count, removed_length}
use Rattle.held.proofs.FindingLaws.{kind_of, removed_kind, found_passes, nowhere_passes_none, removed_complete}
use Rattle.slot.specs.declared.Slot.{Slot}
use Rattle.slot.specs.Slot.{is_key, expired}
use Rattle.slot.proofs.SlotLaws.{is_key_iff}
use Rattle.ledger.specs.Model as Ledger
use Rattle.shard_map.specs.Model.{Shard, Sound, Complete, slot_items, cap_of, slot_at, with_slot, with_sweep, with_ledger, hand_of, sweep_of, place_of}
use Rattle.shard_map.specs.Model.{remove_at}
use Rattle.shard_map.specs.Model.{reclaimable, round_of, idle_look, sweep_idle}

-- The hand and the sweep, as they are read, stand at a slot.
pub hand_below : (s : Shard) → 0 < s.slots.count → hand_of s < s.slots.count
hand_below s some = wrapped_below s.hand s.slots.count some

pub sweep_below : (s : Shard) → 0 < s.slots.count → sweep_of s < s.slots.count
sweep_below s some = wrapped_below s.sweep s.slots.count some

-- What a lookup by hash and key says of the slots that are held.
pub record Holding (s : Shard) (h k p : ℕ) : Type 0 where
  pub below : p < s.slots.count
  pub hash : (slot_at s p).hash ≡ h
  pub key : (slot_at s p).key ≡ k

pub found_holds : (s : Shard) (h k p : ℕ) → place_of s h k ≡ Some p → Holding s h k p
unfolding place_of
found_holds s h k p e =
    let f = found_passes slot_items s.slots h (is_key h k) p e in
    let own : ((slot_at s p).hash ≡ h) × ((slot_at s p).key ≡ k) = (is_key_iff h k (slot_at s p)).0 f.passes in
    record { below = f.below; hash = own.0; key = own.1 }

pub nowhere_holds_none : (s : Shard) → Complete s → (h k : ℕ) → place_of s h k ≡ None
    → (i : ℕ) → i < s.slots.count → (slot_at s i).hash ≡ h → (slot_at s i).key ≡ k → ⊥
unfolding place_of
nowhere_holds_none s complete h k e i below hash key =
    let fails : is_key h k (slot_at s i) ≡ false =
    nowhere_passes_none slot_items s.slots complete.slots h (is_key h k) (λ slot passes. ((is_key_iff h k slot).0 passes).0) e i below in
    let holds : is_key h k (slot_at s i) ≡ true = (is_key_iff h k (slot_at s i)).1 (hash, key) in
    absurd (true≢false (sym holds ∙ fails))

-- A shard is sound where its slots and its ledger are.
pub slots_sound : (s : Shard) → Sound s → Held.Sound s.slots
slots_sound s t = record { room = t.room; count_fits = t.count_fits }

pub sound_by_parts : (s : Shard) → Held.Sound s.slots → Ledger.Sound s.ledger → Sound s
sound_by_parts s t u = record { room = t.room; count_fits = t.count_fits; ledger = u }

-- A removal leaves one slot less, the same room and the same ledger, and lookup misses none if it missed none.
pub removal_count : (s : Shard) (p : ℕ) → (remove_at s p).slots.count ≡ s.slots.count - 1
unfolding remove_at
removal_count s p = removed_count slot_items s.slots p

pub removal_cap : (s : Shard) (p : ℕ) → cap_of (remove_at s p) ≡ cap_of s
unfolding remove_at
removal_cap s p = removed_length slot_items s.slots p

pub removal_ledger : (s : Shard) (p : ℕ) → (remove_at s p).ledger ≡ s.ledger
unfolding remove_at
removal_ledger s p = refl

pub removal_slots_complete : (s : Shard) (p : ℕ) → Sound s → p < s.slots.count → Held.Complete slot_items s.slots
    → Held.Complete slot_items (remove_at s p).slots
unfolding remove_at
removal_slots_complete s p t below complete = removed_complete slot_items s.slots (slots_sound s t) complete p below

pub removal_kind : (s : Shard) (p : ℕ) → kind_of (remove_at s p).slots.finding ≡ kind_of s.slots.finding
unfolding remove_at
removal_kind s p = removed_kind slot_items s.slots p

-- A slot that is changed, a sweep that moves, and a sound ledger put in leave a sound shard.
pub change_sound : (s : Shard) (p : ℕ) (slot : Slot) → Sound s → Sound (with_slot s p slot)
change_sound s p slot t = sound_by_parts (with_slot s p slot) (stored_sound s.slots p slot (slots_sound s t)) t.ledger

pub sweep_sound : (s : Shard) (sweep : ℕ) → Sound s → Sound (with_sweep s sweep)
sweep_sound s sweep t = sound_by_parts (with_sweep s sweep) (slots_sound s t) t.ledger

pub ledger_sound : (s : Shard) (l : Ledger.Ledger) → Sound s → Ledger.Sound l → Sound (with_ledger s l)
ledger_sound s l t u = sound_by_parts (with_ledger s l) (slots_sound s t) u

-- A slot that may be reclaimed has a full bucket.
pub reclaimable_is_full : (c : BucketConfig) (at : Nanos) (limit : Millis) (slot : Slot) → reclaimable c at limit slot ≡ true
    → shortfall_at c slot.bucket at ≡ 0
reclaimable_is_full c at limit slot = by_test (expired slot (millis_of at) limit) (λ t. rw t (λ full. eqb-true _ _ full)) (λ t. rw t (λ e. cc))

-- An idle sweep leaves a sound shard with the same ledger. So does a look, which is an idle sweep of one look.
module _ (c : BucketConfig) (at : Nanos) (limit : Millis) where
  pub sweep_idle_ledger : (n : ℕ) (s : Shard) → (sweep_idle c at limit n s).ledger ≡ s.ledger
  unfolding sweep_idle
  sweep_idle_ledger n s = refl

  pub sweep_idle_sound : (n : ℕ) (s : Shard) → Sound s → Sound (sweep_idle c at limit n s)
  unfolding sweep_idle
  sweep_idle_sound n s t =
      sound_by_parts (sweep_idle c at limit n s) (RoundLaws.sweep_sound slot_items (reclaimable c at limit) n (round_of s) (slots_sound s t)) t.ledger

  pub idle_look_sound : (s : Shard) → Sound s → Sound (idle_look c at limit s)
  unfolding idle_look sweep_idle Round.sweep
  idle_look_sound s t = sweep_idle_sound 1 s t
