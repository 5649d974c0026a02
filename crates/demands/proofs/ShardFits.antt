-- A shard whose words fit 64 bits, free places too, and what every step on it and the idle sweep leave.
use Prim.Native.Nat.{ℕ, ◌+◌, ◌<◌}
use native.Mathlib.Omega.{arith}
use Rattle.units.specs.declared.Nanos.{Nanos}
use Rattle.units.specs.declared.Millis.{Millis}
use Rattle.bucket.specs.declared.BucketConfig.{BucketConfig}
use Rattle.held.specs.Held.{Held}
use Rattle.slot.specs.declared.Slot.{Slot}
use Rattle.ledger.specs.Model.{Ledger}
use Rattle.shard_map.specs.Model.{Shard, no_slot, slot_items, slot_at, with_slots, with_slot, with_hand, with_ledger, remove_at, insert}
use Rattle.shard_map.specs.Model.{reclaimable, round_of, sweep_idle}
use Rattle.demands.proofs.WordFits.{Word, HeldFits, item_fits, stored_fits, appended_fits, removed_fits, swept_fits}
use Rattle.demands.proofs.BucketFits.{BucketFits}
use Rattle.demands.proofs.LedgerFits.{LedgerFits}

-- A slot and a shard whose words fit.
pub record SlotFits (slot : Slot) : Type 0 where
  pub hash : Word slot.hash
  pub key : Word slot.key
  pub bucket : BucketFits slot.bucket
  pub mark : Word slot.mark
  pub seen : Word slot.seen.0
  pub turned_away_met : Word slot.turned_away

pub record ShardFits (s : Shard) : Type 0 where
  pub slots : HeldFits SlotFits s.slots
  pub hand : Word s.hand
  pub sweep : Word s.sweep
  pub ledger : LedgerFits s.ledger

no_slot_fits : SlotFits no_slot
no_slot_fits = record {
  hash = omega arith;
  key = omega arith;
  bucket = record { shortfall = omega arith; stamp = omega arith };
  mark = omega arith;
  seen = omega arith;
  turned_away_met = omega arith;
}

-- The single steps.
module _ (s : Shard) (f : ShardFits s) where
  pub slot_at_fits : (i : ℕ) → SlotFits (slot_at s i)
  slot_at_fits i = item_fits SlotFits s.slots f.slots slot_items no_slot_fits i

  other_slots_fit : (slots : Held Slot) → HeldFits SlotFits slots → ShardFits (with_slots s slots)
  other_slots_fit slots fit = record { slots = fit; hand = f.hand; sweep = f.sweep; ledger = f.ledger }

  pub changed_slot_fits : (i : ℕ) (slot : Slot) → SlotFits slot → ShardFits (with_slot s i slot)
  changed_slot_fits i slot fits = other_slots_fit _ (stored_fits SlotFits s.slots f.slots i slot fits)

  pub removed_slot_fits : (p : ℕ) → p < s.slots.count → ShardFits (remove_at s p)
  unfolding remove_at
  removed_slot_fits p below = other_slots_fit _ (removed_fits SlotFits s.slots f.slots slot_items no_slot_fits p below)

  pub inserted_slot_fits : (slot : Slot) → SlotFits slot → Word (s.slots.count + 1) → ShardFits (insert s slot)
  unfolding insert
  inserted_slot_fits slot fits next = other_slots_fit _ (appended_fits SlotFits s.slots f.slots slot_items slot fits next)

  pub moved_hand_fits : (hand : ℕ) → Word hand → ShardFits (with_hand s hand)
  moved_hand_fits hand fits = record { slots = f.slots; hand = fits; sweep = f.sweep; ledger = f.ledger }

  pub changed_ledger_fits : (l : Ledger) → LedgerFits l → ShardFits (with_ledger s l)
  changed_ledger_fits l fits = record { slots = f.slots; hand = f.hand; sweep = f.sweep; ledger = fits }

-- The idle sweep.
pub sweep_idle_fits : (c : BucketConfig) (at : Nanos) (limit : Millis) (n : ℕ) (s : Shard) → ShardFits s → ShardFits (sweep_idle c at limit n s)
unfolding sweep_idle
sweep_idle_fits c at limit n s f =
    let swept = swept_fits SlotFits slot_items no_slot_fits (reclaimable c at limit) n (round_of s) (record { items = f.slots; next = f.sweep }) in
    record { slots = swept.items; hand = f.hand; sweep = swept.next; ledger = f.ledger }
