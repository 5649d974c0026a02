-- Eviction of one slot from a full shard: the walk of the hand, and who goes.
use Rattle.std.specs.Prelude.{ℕ, zero, suc, ◌+◌, ◌-◌, ◌^◌, min, max, Bool, false, cond, not, Option, Some, None, Result, Ok, Err}
use Rattle.units.specs.declared.Nanos.{Nanos}
use Rattle.bucket.specs.declared.BucketConfig.{BucketConfig}
use Rattle.bucket.specs.declared.Due.{Due}
use Rattle.bucket.specs.Bucket.{due_after}
use Rattle.settings.specs.Eviction.{clock_scan}
use Rattle.rows.specs.Outcome.{Outcome, outcome}
use Rattle.slot.specs.declared.Slot.{Slot}
use Rattle.slot.specs.Slot.{marked, with_mark, lossless, recovery}
use Rattle.ledger.specs.declared.Debt.{Debt}
use Rattle.ledger.specs.Model.{Recorded}
use Rattle.ledger.specs.Model as Ledger
use Rattle.evict.specs.declared.Victim.{Victim}
use Rattle.evict.specs.declared.Victim.TheVariants.{Free, Owing}
use Rattle.shard_map.specs.Model.{Shard, slot_at, with_slot, with_hand, with_ledger, hand_of, remove_at}

-- The shortest wait that a key refused for space is told, in nanoseconds: one millisecond.
abbrev pub min_refusal_wait : ℕ
min_refusal_wait = 1000000

-- The first of two places, if there is one, else the second.
abbrev pub or_else : Option ℕ → Option ℕ → Option ℕ
or_else (Some p) other = Some p
or_else None other = other

-- A place noted, or else a number.
abbrev pub place_or : Option ℕ → ℕ → ℕ
place_or (Some p) other = p
place_or None other = other

-- What the walk has noted of the slots that it looked at: the place of the first full one, the place of the first that is neither full nor marked, and the
-- soonest recovery of those that are not full.
pub record Notes : Type 0 where
  pub full : Option ℕ
  pub unmarked : Option ℕ
  pub soonest : ℕ

-- The largest number of 64 bits. No recovery is longer (`no_recovery_is_longer`), so it stands for the soonest recovery of no slots.
abbrev pub last_word : ℕ
last_word = 2 ^ 64 - 1

-- What the walk has noted before its first look: nothing.
abbrev pub nothing_noted : Notes
nothing_noted = record { full = None; unmarked = None; soonest = last_word }

-- A look at a full slot notes its place, if it is the first full one. A look at any other notes its place, if it is the first unmarked one, and its recovery,
-- if that is the soonest so far.
unfoldable pub noted : BucketConfig → Nanos → Notes → ℕ → Slot → Notes
noted c at n p slot =
    cond (lossless c slot at)
    (record { full = or_else n.full (Some p); unmarked = n.unmarked; soonest = n.soonest })
    (record {
      full = n.full;
      unmarked = cond (marked slot) n.unmarked (or_else n.unmarked (Some p));
      soonest = min n.soonest (recovery c slot at);
    })

-- Each look clears the mark of the slot that it looks at, and advances the hand.
abbrev pub looked : Shard → ℕ → Shard
looked s p = with_hand (with_slot s p (with_mark (slot_at s p) 0)) (p + 1)

-- A full slot without the mark goes at once.
abbrev pub goes_at_once : BucketConfig → Nanos → Slot → Bool
goes_at_once c at slot = cond (lossless c slot at) (not (marked slot)) false

-- The walk's end: the place at which it ended at once, if it did, what it noted, and the shard with the marks cleared and the hand moved.
pub record Walked : Type 0 where
  pub ended : Option ℕ
  pub notes : Notes
  pub after : Shard

-- The walk, with so many looks left and these notes of the looks before.
unfoldable pub walk_from : BucketConfig → Nanos → ℕ → Shard → Notes → Walked
walk_from c at zero s n = record { ended = None; notes = n; after = s }
walk_from c at (suc left) s n =
    cond (goes_at_once c at (slot_at s (hand_of s)))
    (record { ended = Some (hand_of s); notes = n; after = looked s (hand_of s) })
    (walk_from c at left (looked s (hand_of s)) (noted c at n (hand_of s) (slot_at s (hand_of s))))

-- At most `clock_scan` looks, and no more than there are slots.
unfoldable pub walked : BucketConfig → Nanos → Shard → Walked
walked c at s = walk_from c at (min clock_scan s.slots.count) s nothing_noted

-- Who goes: the slot at which the walk ended; else the first full one; else the first unmarked one, or the first looked at, which owes.
abbrev pub free_or : Option ℕ → ℕ → Victim
free_or (Some p) other = Free p
free_or None other = Owing other

abbrev pub victim_of : (ended full unmarked : Option ℕ) → ℕ → Victim
victim_of ended full unmarked first = free_or (or_else ended full) (place_or unmarked first)

-- The place of the victim, whether it owes or not.
abbrev pub place_of_victim : Victim → ℕ
place_of_victim (Free p) = p
place_of_victim (Owing p) = p

-- The slot at p goes, and the hand steps past what moved into its place.
abbrev pub evict_at : Shard → ℕ → Shard
evict_at s p = with_hand (remove_at s p) (p + 1)

-- The debt that a slot leaves: it settles when the bucket is due to be full.
abbrev pub debt_left : BucketConfig → Nanos → Slot → Debt
debt_left c at slot = record { hash = slot.hash; settles = (due_after at (record { 0 = recovery c slot at })).moment }

-- The wait of a key refused for space: the smaller of the soonest recovery of the slots looked at and the ledger's wait, but at least a millisecond.
abbrev pub refusal_wait : ℕ → Nanos → Nanos
refusal_wait soonest wait = record { 0 = max (min soonest wait.0) min_refusal_wait }

-- What an eviction answers: that room was made; or, where no slot could go, when room is due.
abbrev pub Room : Type 0
Room = Result (Unit {0}) Due

-- If the debt was recorded, the slot that owes goes; l is the ledger then. If there was no room for the debt, the slot stays, and room is due after that wait.
abbrev pub after_recording : Nanos → Shard → ℕ → ℕ → Ledger.Ledger → Recorded → Outcome Room Shard
after_recording at s p soonest l (Ok _) = outcome (Ok tt) (evict_at (with_ledger s l) p)
after_recording at s p soonest l (Err full) = outcome (Err (due_after at (refusal_wait soonest full.wait))) (with_ledger s l)

-- What happens to the victim: a free slot goes; one that owes goes once its debt is recorded.
abbrev pub evict_victim : BucketConfig → Nanos → Bool → Shard → ℕ → Victim → Outcome Room Shard
evict_victim c at forget s soonest (Free p) = outcome (Ok tt) (evict_at s p)
evict_victim c at forget s soonest (Owing p) =
    let recording = Ledger.recorded s.ledger (debt_left c at (slot_at s p)) at forget in
    after_recording at s p soonest recording.after recording.answer

-- The eviction: the walk, and what happens to the victim that it chose.
unfoldable pub evicted : BucketConfig → Nanos → Bool → Shard → Outcome Room Shard
evicted c at forget s =
    let w = walked c at s in
    let n = w.notes in
    evict_victim c at forget w.after n.soonest (victim_of w.ended n.full n.unmarked (hand_of s))
