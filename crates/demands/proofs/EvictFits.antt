-- What an eviction leaves of a shard that fits 64 bits fits.
use Prim.Native.Nat.{ℕ, zero, suc, ◌<◌}
use mathlib.Core.Bool.{Bool}
use native.Mathlib.Omega.{arith}
use Rattle.units.specs.declared.Nanos.{Nanos}
use Rattle.bucket.specs.declared.BucketConfig.{BucketConfig}
use Rattle.slot.specs.declared.Slot.{Slot}
use Rattle.slot.specs.Slot.{with_mark}
use Rattle.shard_map.specs.Model.{Shard, Sound, slot_at, with_ledger, hand_of}
use Rattle.evict.specs.Evict.{Notes, nothing_noted, noted, looked, goes_at_once, Walked, walk_from, walked, evict_at, debt_left, evicted}
use Rattle.evict.proofs.CaseLaws.{debt_recorded, evict_cases, walk_sound}
use Rattle.demands.proofs.EveryLaws.{of_either}
use Rattle.demands.proofs.WordFits.{next_place_fits}
use Rattle.demands.proofs.LedgerFits.{DebtFits, recorded_fits}
use Rattle.demands.proofs.ShardFits.{SlotFits, ShardFits, slot_at_fits, changed_slot_fits, removed_slot_fits, moved_hand_fits, changed_ledger_fits}

-- The walk of the hand.
looked_fits : (s : Shard) → ShardFits s → ShardFits (looked s (hand_of s))
looked_fits s f =
    let old : SlotFits (slot_at s (hand_of s)) = slot_at_fits s f (hand_of s) in
    let unmarked : SlotFits (with_mark (slot_at s (hand_of s)) 0) =
    record { hash = old.hash; key = old.key; bucket = old.bucket; mark = omega arith; seen = old.seen; turned_away_met = old.turned_away_met } in
    moved_hand_fits _ (changed_slot_fits s f (hand_of s) _ unmarked) _ (next_place_fits s.hand s.slots.count f.slots.count)

walk_from_fits : (c : BucketConfig) (at : Nanos) (left : ℕ) (s : Shard) (n : Notes) → ShardFits s → ShardFits (walk_from c at left s n).after
unfolding walk_from
walk_from_fits c at zero s n f = f
walk_from_fits c at (suc left) s n f =
    of_either (λ (o : Walked). ShardFits o.after) (goes_at_once c at (slot_at s (hand_of s))) _
    (walk_from c at left (looked s (hand_of s)) (noted c at n (hand_of s) (slot_at s (hand_of s))))
    (looked_fits s f) (walk_from_fits c at left _ _ (looked_fits s f))

walked_fits : (c : BucketConfig) (at : Nanos) (s : Shard) → ShardFits s → ShardFits (walked c at s).after
unfolding walked
walked_fits c at s f = walk_from_fits c at _ s nothing_noted f

-- The slot at p goes, and the hand steps past it.
evicted_at_fits : (s : Shard) (p : ℕ) → p < s.slots.count → ShardFits s → ShardFits (evict_at s p)
evicted_at_fits s p below f = moved_hand_fits _ (removed_slot_fits s f p below) _ (omega (arith, f.slots.count))

-- An eviction: the debt that a slot leaves fits too.
module _ (c : BucketConfig) (at : Nanos) (forget : Bool) where
  debt_left_fits : (slot : Slot) → SlotFits slot → DebtFits (debt_left c at slot)
  debt_left_fits slot f = record { hash = f.hash; settles = omega arith }

  debt_recorded_fits : (s : Shard) (p : ℕ) → Sound s → ShardFits s → ShardFits (with_ledger s (debt_recorded c at forget s p).after)
  debt_recorded_fits s p u f = changed_ledger_fits s f _ (recorded_fits s.ledger _ at forget u.ledger (debt_left_fits _ (slot_at_fits s f p)) f.ledger)

  pub evicted_fits : (s : Shard) → Sound s → 0 < s.slots.count → ShardFits s → ShardFits (evicted c at forget s).after
  evicted_fits s u some f =
      let left : Shard = (walked c at s).after in
      let sound : Sound left = walk_sound c at forget s u some in
      let fits : ShardFits left = walked_fits c at s f in
      evict_cases c at forget s u some (λ o. ShardFits o.after)
      (λ p full. evicted_at_fits left p full.below fits)
      (λ p below done. evicted_at_fits (with_ledger left (debt_recorded c at forget left p).after) p below (debt_recorded_fits left p sound fits))
      (λ p wait below told. debt_recorded_fits left p sound fits)
