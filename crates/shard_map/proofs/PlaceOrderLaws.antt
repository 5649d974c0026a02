-- Lookup by an index changes nothing: where lookup finds each slot and each debt, every step gives what it gives where slots and debts are found in place
-- order.
use Prim.Native.Nat.{ℕ}
use mathlib.Core.Path.{◌≡◌, refl, sym}
use Rattle.held.specs.Held as Held
use Rattle.held.specs.Held.{in_order}
use Rattle.held.proofs.AlikeLaws.{found_otherwise_alike}
use Rattle.held.proofs.SingleLaws.{found_in_place_order}
use Rattle.slot.specs.Slot.{is_key}
use Rattle.slot.proofs.SlotLaws.{is_key_iff}
use Rattle.ledger.proofs.PlaceOrderLaws.{PlaceOrdered, place_order_kept}
use Rattle.shard_map.specs.Model.{Shard, slot_items, in_place_order, place_of}
use Rattle.shard_map.proofs.AlikeLaws.{View, AlikeShards}
use Rattle.shard_map.proofs.RoomLaws.{identity_of}
pub use Rattle.shard_map.proofs.RoomLaws.{FindsEach, found_is_sound, found_is_complete, empty_finds_each}

-- The second shard has the slots and the debts of the first, found in place order. So every step gives the same on both.
abbrev pub place_order : View
place_order = record {
  Same = ◌≡◌;
  reads = λ same. rw same (record { hash = refl; key = refl; bucket = refl; mark = refl; seen = refl });
  itself = λ x. refl;
  marks = λ same mark. rw same;
  refills = λ same bucket. rw (same, bucket);
  asks = λ same outcome. rw (same, outcome);
  touches = λ same at track. rw same;
  Slots = λ h g. g ≡ Held.in_place_order h;
  ways = found_otherwise_alike slot_items (λ x. in_order) (λ x key i. refl) (λ x hash n p. refl);
  Ledgers = PlaceOrdered;
  ledgers = place_order_kept;
}

pub in_place_order_alike : (s : Shard) → FindsEach s → AlikeShards place_order s (in_place_order s)
in_place_order_alike s each = record { slots = refl; hand = refl; sweep = refl; ledger = record { is = refl; each = each.ledger } }

pub alike_is_in_place_order : {s t : Shard} → AlikeShards place_order s t → t ≡ in_place_order s
alike_is_in_place_order like = rw (← like.slots, like.hand, like.sweep, ← like.ledger.is)

-- Lookup finds the same place in both, where it finds each slot of the first.
pub place_in_place_order : (s : Shard) → FindsEach s → (h k : ℕ) → place_of s h k ≡ place_of (in_place_order s) h k
unfolding place_of
place_in_place_order s each h k =
    sym (found_in_place_order slot_items identity_of s.slots each.slots h (h, k) (is_key h k)
    (λ slot passes. ((is_key_iff h k slot).0 passes).0)
    (λ slot passes. let own = (is_key_iff h k slot).0 passes in rw (own.0, own.1)))
