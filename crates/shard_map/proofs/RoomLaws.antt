-- What every step on a shard keeps, in one relation. What the steps keep, the operations above keep: they add up such steps and open none of them.
use Rattle.std.proofs.Common.{None}
use Prim.Native.Nat.{ℕ, ◌<◌}
use mathlib.Core.Path.{◌≡◌, refl, ap, ◌∙◌}
use native.Mathlib.Omega.{arith}
use lib.ListN.{length-set}
use Rattle.units.specs.declared.Nanos.{Nanos}
use Rattle.units.specs.declared.Millis.{Millis}
use Rattle.bucket.specs.declared.BucketConfig.{BucketConfig}
use Rattle.held.proofs.HeldLaws.{appended_sound, removed_length, removed_sound}
use Rattle.held.proofs.FindingLaws.{kind_of, added_kind, removed_kind, stored_complete, appended_complete, removed_complete}
use Rattle.held.proofs.RoundLaws.{sweep_length, sweep_kind, sweep_complete}
use Rattle.held.proofs.SingleLaws as Singles
use Rattle.held.proofs.SingleLaws.{ComesFrom, Lacks, removed_comes_from, sweep_comes_from, none_finds_each}
use Rattle.held.proofs.SingleLaws.{stored_finds_each, appended_finds_each, removed_finds_each, sweep_finds_each}
use Rattle.slot.specs.declared.Slot.{Slot}
use Rattle.ledger.specs.Model as Ledger
use Rattle.ledger.proofs.StepLaws as LedgerSteps
use Rattle.shard_map.specs.Model.{Shard, Sound, Complete, slot_items, no_slot, cap_of, slot_at, with_slot, with_hand, with_ledger, place_of, remove_at, insert}
use Rattle.shard_map.specs.Model.{reclaimable, round_of, sweep_idle}
use Rattle.shard_map.proofs.StepLaws.{nowhere_holds_none, slots_sound, sound_by_parts, change_sound, ledger_sound, sweep_idle_sound}

-- What a slot is known by: its hash and its key.
abbrev pub identity_of : Slot → ℕ × ℕ
identity_of slot = (slot.hash, slot.key)

-- Lookup finds each slot and each debt: it misses none, no two slots have one hash and key, no two debts have one hash, and all other places are free.
pub record FindsEach (s : Shard) : Type 0 where
  pub slots : Singles.FindsEach slot_items identity_of s.slots
  pub ledger : LedgerSteps.FindsEach s.ledger

-- Such a shard is sound and complete.
pub found_is_sound : {s : Shard} → FindsEach s → Sound s
found_is_sound each = record { room = each.slots.sound.room; count_fits = each.slots.sound.count_fits; ledger = each.ledger.sound }

pub found_is_complete : {s : Shard} → FindsEach s → Complete s
found_is_complete each = record { slots = each.slots.complete; ledger = each.ledger.complete }

-- A fresh shard, which holds nothing, is one.
pub empty_finds_each : (s : Shard) → Sound s → Complete s → s.slots.count ≡ 0 → s.ledger.debts.count ≡ 0
    → ((i : ℕ) → slot_at s i ≡ no_slot) → ((i : ℕ) → Ledger.debt_at s.ledger i ≡ Ledger.no_debt) → FindsEach s
empty_finds_each s sound complete no_slot no_debt_lem free_slots free_debts = record {
  slots = none_finds_each slot_items identity_of s.slots (slots_sound s sound) complete.slots no_slot free_slots;
  ledger = none_finds_each Ledger.debt_items LedgerSteps.hash_of s.ledger.debts sound.ledger complete.ledger no_debt_lem free_debts;
}

-- The slots of a shard come from those of another.
abbrev pub SlotsFrom : Shard → Shard → Type 0
SlotsFrom s t = ComesFrom slot_items identity_of s.slots t.slots

-- Where it finds none, no slot has the hash and the key.
pub nowhere_lacks : (s : Shard) → Complete s → (h k : ℕ) → place_of s h k ≡ None → Lacks slot_items identity_of (h, k) s.slots
nowhere_lacks s complete h k new i below own = nowhere_holds_none s complete h k new i below (ap (λ x. x.0) own) (ap (λ x. x.1) own)

-- The slots that a removal and an idle sweep leave come from those before.
module _ (s : Shard) (sound : Sound s) where
  pub removal_slots_from : (p : ℕ) → SlotsFrom s (remove_at s p)
  unfolding remove_at
  removal_slots_from p = removed_comes_from slot_items identity_of s.slots p (slots_sound s sound)

  pub sweep_idle_slots_from : (c : BucketConfig) (at : Nanos) (limit : Millis) (n : ℕ) → SlotsFrom s (sweep_idle c at limit n s)
  unfolding sweep_idle
  sweep_idle_slots_from c at limit n = sweep_comes_from slot_items identity_of (reclaimable c at limit) n (round_of s) (slots_sound s sound)

-- What every step keeps of a shard: it is sound, with the room for slots and for debts that another has, found in the same way. Lookup misses none in it if it
-- missed none in the other, and finds each slot and each debt if it found each.
pub record SameRoom (s t : Shard) : Type 0 where
  pub sound : Sound t
  pub cap : cap_of t ≡ cap_of s
  pub kind : kind_of t.slots.finding ≡ kind_of s.slots.finding
  pub ledger_room : LedgerSteps.SameRoom s.ledger t.ledger
  pub complete : Complete s → Complete t
  pub finds_each : FindsEach s → FindsEach t

pub same_room_trans : {s t w : Shard} → SameRoom s t → SameRoom t w → SameRoom s w
same_room_trans first second = record {
  sound = second.sound;
  cap = second.cap ∙ first.cap;
  kind = second.kind ∙ first.kind;
  ledger_room = LedgerSteps.same_room_trans first.ledger_room second.ledger_room;
  complete = λ complete. second.complete (first.complete complete);
  finds_each = λ each. second.finds_each (first.finds_each each);
}

-- The hand moves.
pub hand_same_room : {s t : Shard} → SameRoom s t → (hand : ℕ) → SameRoom s (with_hand t hand)
hand_same_room room hand = record {
  sound = sound_by_parts _ (slots_sound _ room.sound) room.sound.ledger;
  cap = room.cap;
  kind = room.kind;
  ledger_room = room.ledger_room;
  complete = λ complete. let kept = room.complete complete in record { slots = kept.slots; ledger = kept.ledger };
  finds_each = λ each. let kept = room.finds_each each in record { slots = kept.slots; ledger = kept.ledger };
}

module _ (s : Shard) (u : Sound s) where
  -- The ledger changes.
  pub ledger_same_room : (l : Ledger.Ledger) → LedgerSteps.SameRoom s.ledger l → SameRoom s (with_ledger s l)
  ledger_same_room l room = record {
    sound = ledger_sound s l u (room.sound u.ledger);
    cap = refl;
    kind = refl;
    ledger_room = room;
    complete = λ complete. record { slots = complete.slots; ledger = room.complete u.ledger complete.ledger };
    finds_each = λ each. record { slots = each.slots; ledger = room.each each.ledger };
  }

  pub same_room : SameRoom s s
  same_room = ledger_same_room s.ledger (LedgerSteps.same_room s.ledger)

  -- A slot is changed, and keeps its hash and its key.
  pub change_same_room : (i : ℕ) (slot : Slot) → i < s.slots.count → slot.hash ≡ (slot_at s i).hash → slot.key ≡ (slot_at s i).key
      → SameRoom s (with_slot s i slot)
  change_same_room i slot below hash key = record {
    sound = change_sound s i slot u;
    cap = simp length-set;
    kind = refl;
    ledger_room = LedgerSteps.same_room s.ledger;
    complete = λ complete. record {
      slots = stored_complete slot_items s.slots complete.slots i slot (omega (arith, u.count_fits)) hash;
      ledger = complete.ledger;
    };
    finds_each = λ each. record {
      slots = stored_finds_each slot_items identity_of s.slots each.slots i slot below hash (rw (hash, key));
      ledger = each.ledger;
    };
  }

  -- A slot leaves, and slots that may be reclaimed leave.
  pub removal_same_room : (i : ℕ) → i < s.slots.count → SameRoom s (remove_at s i)
  unfolding remove_at
  removal_same_room i below = record {
    sound = sound_by_parts _ (removed_sound slot_items s.slots i (slots_sound s u)) u.ledger;
    cap = removed_length slot_items s.slots i;
    kind = removed_kind slot_items s.slots i;
    ledger_room = LedgerSteps.same_room s.ledger;
    complete = λ complete. record { slots = removed_complete slot_items s.slots (slots_sound s u) complete.slots i below; ledger = complete.ledger };
    finds_each = λ each. record { slots = removed_finds_each slot_items identity_of s.slots each.slots i below; ledger = each.ledger };
  }

  pub idle_same_room : (c : BucketConfig) (at : Nanos) (limit : Millis) (n : ℕ) → SameRoom s (sweep_idle c at limit n s)
  unfolding sweep_idle
  idle_same_room c at limit n = record {
    sound = sweep_idle_sound c at limit n s u;
    cap = sweep_length slot_items (reclaimable c at limit) n (round_of s);
    kind = sweep_kind slot_items (reclaimable c at limit) n (round_of s);
    ledger_room = LedgerSteps.same_room s.ledger;
    complete = λ complete. record {
      slots = sweep_complete slot_items (reclaimable c at limit) n (round_of s) (slots_sound s u) complete.slots;
      ledger = complete.ledger;
    };
    finds_each = λ each. record { slots = sweep_finds_each slot_items identity_of (reclaimable c at limit) n (round_of s) each.slots; ledger = each.ledger };
  }

-- A slot comes where there is room, and no slot has its hash and its key.
pub insert_same_room : {s t : Shard} → SameRoom s t → (slot : Slot) → t.slots.count < cap_of t
    → (FindsEach s → Lacks slot_items identity_of (identity_of slot) t.slots)
    → SameRoom s (insert t slot)
unfolding insert
insert_same_room {s} {t} before slot room lacks = record {
  sound = sound_by_parts _ (appended_sound slot_items t.slots slot room) before.sound.ledger;
  cap = simp length-set before.cap;
  kind = added_kind t.slots.finding slot.hash t.slots.count ∙ before.kind;
  ledger_room = before.ledger_room;
  complete = λ complete.
      let kept = before.complete complete in
      record { slots = appended_complete slot_items t.slots kept.slots slot room; ledger = kept.ledger };
  finds_each = λ each.
      let kept = before.finds_each each in
      record { slots = appended_finds_each slot_items identity_of t.slots kept.slots slot room (lacks each); ledger = kept.ledger };
}
