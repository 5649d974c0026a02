-- A view of shards says which of them an operation cannot tell apart. The steps of a shard, and the idle sweep, leave shards that are alike where they were.
-- Layers above prove the same of their operations over any view.
use Prim.Native.Nat.{ℕ}
use mathlib.Core.Path.{◌≡◌, refl}
use mathlib.Core.Bool.{Bool}
use Rattle.units.specs.declared.Nanos.{Nanos}
use Rattle.units.specs.declared.Millis.{Millis}
use Rattle.bucket.specs.declared.BucketConfig.{BucketConfig}
use Rattle.bucket.specs.declared.BucketCore.{BucketCore}
use Rattle.bucket.specs.declared.BucketOutcome.{BucketOutcome}
use Rattle.held.specs.Held.{Held}
use Rattle.held.proofs.AlikeLaws.{KeptByWays, sweep_alike}
use Rattle.slot.specs.declared.Slot.{Slot}
use Rattle.slot.specs.Slot.{with_mark, with_bucket, with_asked, touched}
use Rattle.ledger.specs.Model.{Ledger}
use Rattle.ledger.proofs.AlikeLaws.{KeptByLedgers}
use Rattle.shard_map.specs.Model.{Shard, slot_items, slot_at, with_slot, with_hand, with_ledger, hand_of, remove_at, insert, reclaimable, sweep_idle}

-- What decisions read of a slot is the same.
pub record SameRead (x y : Slot) : Type 0 where
  pub hash : x.hash ≡ y.hash
  pub key : x.key ≡ y.key
  pub bucket : x.bucket ≡ y.bucket
  pub mark : x.mark ≡ y.mark
  pub seen : x.seen ≡ y.seen

-- `Same` says which slots are alike: what is read of them is the same, and what is made of them is alike. `Slots` and `Ledgers` say which held slots and which
-- ledgers are.
pub record View : Type 1 where
  pub Same : Slot → Slot → Type 0
  pub reads : {x y : Slot} → Same x y → SameRead x y
  pub itself : (x : Slot) → Same x x
  pub marks : {x y : Slot} → Same x y → (mark : ℕ) → Same (with_mark x mark) (with_mark y mark)
  pub refills : {x y : Slot} {b d : BucketCore} → Same x y → b ≡ d → Same (with_bucket x b) (with_bucket y d)
  pub asks : {x y : Slot} {o r : BucketOutcome} → Same x y → o ≡ r → Same (with_asked x o) (with_asked y r)
  pub touches : {x y : Slot} → Same x y → (at : Nanos) (track : Bool) → Same (touched x at track) (touched y at track)
  pub Slots : Held Slot → Held Slot → Type 0
  pub ways : KeptByWays slot_items Same Slots
  pub Ledgers : Ledger → Ledger → Type 0
  pub ledgers : KeptByLedgers Ledgers

-- Shards that are alike to a view, with one hand and one sweep.
pub record AlikeShards (v : View) (s t : Shard) : Type 0 where
  pub slots : v.Slots s.slots t.slots
  pub hand : s.hand ≡ t.hand
  pub sweep : s.sweep ≡ t.sweep
  pub ledger : v.Ledgers s.ledger t.ledger

module _ (v : View) {s t : Shard} (like : AlikeShards v s t) where
  pub slot_alike : {p q : ℕ} → p ≡ q → v.Same (slot_at s p) (slot_at t q)
  slot_alike here = v.ways.item like.slots here

  pub hand_alike : hand_of s ≡ hand_of t
  hand_alike = rw (like.hand, v.ways.count like.slots)

  pub hand_moved_alike : {i j : ℕ} → i ≡ j → AlikeShards v (with_hand s i) (with_hand t j)
  hand_moved_alike same = record { slots = like.slots; hand = same; sweep = like.sweep; ledger = like.ledger }

  pub ledger_alike : {l m : Ledger} → v.Ledgers l m → AlikeShards v (with_ledger s l) (with_ledger t m)
  ledger_alike same = record { slots = like.slots; hand = like.hand; sweep = like.sweep; ledger = same }

  pub change_alike : {p q : ℕ} {x y : Slot} → p ≡ q → v.Same x y → AlikeShards v (with_slot s p x) (with_slot t q y)
  change_alike here same = record { slots = v.ways.stores like.slots here same; hand = like.hand; sweep = like.sweep; ledger = like.ledger }

  pub removal_alike : (p : ℕ) → AlikeShards v (remove_at s p) (remove_at t p)
  unfolding remove_at
  removal_alike p = record { slots = v.ways.removes like.slots refl; hand = like.hand; sweep = like.sweep; ledger = like.ledger }

  pub insert_alike : (x : Slot) → AlikeShards v (insert s x) (insert t x)
  unfolding insert
  insert_alike x = record { slots = v.ways.appends like.slots (v.itself x); hand = like.hand; sweep = like.sweep; ledger = like.ledger }

  pub sweep_idle_alike : (c : BucketConfig) (at : Nanos) (limit : Millis) (n : ℕ) → AlikeShards v (sweep_idle c at limit n s) (sweep_idle c at limit n t)
  unfolding sweep_idle
  sweep_idle_alike c at limit n =
      let swept = sweep_alike v.ways (reclaimable c at limit) blind n (record { items = like.slots; next = like.sweep }) in
      record { slots = swept.items; hand = like.hand; sweep = swept.next; ledger = like.ledger }
    where
      blind : (x y : Slot) → v.Same x y → reclaimable c at limit x ≡ reclaimable c at limit y
      blind x y same = rw ((v.reads same).seen, (v.reads same).bucket)
