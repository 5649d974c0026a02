-- The sentences of document 01 on eviction, each worked on a small shard, as the idle sweep is in the Worked of the shard.
use Rattle.std.proofs.Common.{Ok, Err}
use Prim.Native.Nat.{ℕ, ◌+◌, ◌-◌, ◌^◌}
use mathlib.Core.Path.{◌≡◌, refl}
use mathlib.Core.Bool.{true, false}
use mathlib.Core.List.{[], ◌∷◌, ◌++◌}
use lib.ListN.{replicate}
use Rattle.arith.specs.Arith.{ceil_div}
use Rattle.bucket.specs.Bucket.{shortfall_at, grown, wait_at, due_after}
use Rattle.settings.specs.Eviction.{clock_scan}
use Rattle.rows.specs.Places.{lowest_from}
use Rattle.held.specs.Held.{removed}
use Rattle.rows.specs.Outcome.{outcome}
use Rattle.slot.specs.declared.Slot.{Slot}
use Rattle.ledger.specs.declared.Debt.{Debt}
use Rattle.ledger.specs.Model as Ledger
use Rattle.shard_map.specs.Model.{Shard, no_slot, remove_at}
use Rattle.shard_map.proofs.Worked.{rate, moment, slot, ledger, shard, no_debts}
use Rattle.evict.specs.Evict.{noted, walk_from, walked, evicted}

-- A debt by its hash and the moment at which it settles.
abbrev owing : ℕ → ℕ → Debt
owing hash settles = record { hash = hash; settles = moment settles }

-- Eviction at moment 0, where a slot lacks its shortfall and recovers in half as many nanoseconds. The first full slot without the mark goes at once: the
-- walk has cleared the mark of the full one before it, has passed the unmarked one that is not full, and does not look at the last, which moves.
full_and_unmarked_goes_at_once :
    evicted rate (moment 0) false (shard 4 0 0 (slot 1 0 1 0 ∷ slot 2 8 0 0 ∷ slot 3 0 0 0 ∷ slot 4 0 1 0 ∷ []) no_debts)
    ≡ outcome (Ok tt) (shard 3 3 0 (slot 1 0 0 0 ∷ slot 2 8 0 0 ∷ slot 4 0 1 0 ∷ no_slot ∷ []) no_debts)
unfolding evicted walked walk_from noted shortfall_at remove_at removed
full_and_unmarked_goes_at_once = refl

-- Else the first full one goes, though it was marked, and before one that is unmarked. Marks of any value are cleared.
first_full_goes :
    evicted rate (moment 0) false (shard 3 0 0 (slot 1 8 0 0 ∷ slot 2 0 7 0 ∷ slot 3 0 1 0 ∷ []) no_debts)
    ≡ outcome (Ok tt) (shard 2 2 0 (slot 1 8 0 0 ∷ slot 3 0 0 0 ∷ no_slot ∷ []) no_debts)
unfolding evicted walked walk_from noted shortfall_at grown wait_at ceil_div remove_at removed
first_full_goes = refl

-- Else the first unmarked one goes, and leaves its debt; the recovery is rounded up.
first_unmarked_leaves_its_debt :
    evicted rate (moment 0) false (shard 3 0 0 (slot 1 4 1 0 ∷ slot 2 7 0 0 ∷ slot 3 2 0 0 ∷ []) no_debts)
    ≡ outcome (Ok tt) (shard 2 2 0 (slot 1 4 0 0 ∷ slot 3 2 0 0 ∷ no_slot ∷ []) (ledger 1 0 (owing 2 4 ∷ [])))
unfolding evicted walked walk_from noted shortfall_at grown wait_at ceil_div remove_at removed Ledger.recorded Ledger.recorded_at
    Ledger.place_of Ledger.append lowest_from
first_unmarked_leaves_its_debt = refl

-- Else, all being marked, the first looked at goes. Here that is the last place: nothing moves, and the hand stands past the slots that are left.
first_looked_at_leaves_its_debt :
    evicted rate (moment 0) false (shard 3 2 0 (slot 1 4 1 0 ∷ slot 2 2 1 0 ∷ slot 3 8 1 0 ∷ []) no_debts)
    ≡ outcome (Ok tt) (shard 2 3 0 (slot 1 4 0 0 ∷ slot 2 2 0 0 ∷ no_slot ∷ []) (ledger 1 0 (owing 3 4 ∷ [])))
unfolding evicted walked walk_from noted shortfall_at grown wait_at ceil_div remove_at removed Ledger.recorded Ledger.recorded_at
    Ledger.place_of Ledger.append lowest_from
first_looked_at_leaves_its_debt = refl

-- Such a hand reads as the first place.
hand_past_the_slots_reads_as_the_first :
    evicted rate (moment 0) false (shard 2 3 0 (slot 1 0 0 0 ∷ slot 2 0 0 0 ∷ no_slot ∷ []) no_debts)
    ≡ outcome (Ok tt) (shard 1 1 0 (slot 2 0 0 0 ∷ no_slot ∷ no_slot ∷ []) no_debts)
unfolding evicted walked walk_from noted shortfall_at remove_at removed
hand_past_the_slots_reads_as_the_first = refl

-- An eviction takes its looks, and no more: the full slot in the next place is not seen, and the first looked at goes.
an_eviction_takes_its_looks :
    evicted rate (moment 0) false (shard (clock_scan + 1) 0 0 (replicate clock_scan (slot 1 8 1 0) ++ slot 2 0 0 0 ∷ []) no_debts)
    ≡ outcome (Ok tt) (shard clock_scan 1 0 (slot 2 0 0 0 ∷ replicate (clock_scan - 1) (slot 1 8 0 0) ++ no_slot ∷ []) (ledger 1 0 (owing 1 4 ∷ [])))
unfolding evicted walked walk_from noted shortfall_at grown wait_at ceil_div remove_at removed Ledger.recorded Ledger.recorded_at
    Ledger.place_of Ledger.append lowest_from
an_eviction_takes_its_looks = refl

-- The ledger is full of an unsettled debt: none goes. The slots stay, their marks cleared, and the hand and the ledger's cursor have moved.
abbrev two_slots : ℕ → ℕ → ℕ → ℕ → ℕ → ℕ → Shard
two_slots one two mark hand cursor settles = shard 2 hand 0 (slot 1 one mark 0 ∷ slot 2 two mark 0 ∷ []) (ledger 1 cursor (owing 9 settles ∷ []))

-- Both waits are a few nanoseconds; a millisecond is told.
refusal_waits_a_millisecond : evicted rate (moment 0) false (two_slots 8 4 1 0 0 3)
    ≡ outcome (Err (due_after (moment 0) (moment 1000000))) (two_slots 8 4 0 2 1 3)
unfolding evicted walked walk_from noted shortfall_at grown wait_at ceil_div Ledger.recorded Ledger.recorded_at
    Ledger.place_of Ledger.make_room Ledger.scan Ledger.scan_from Ledger.drop_chosen lowest_from
refusal_waits_a_millisecond = refl

-- The moment told is that of the call plus the wait told, after the floor of a millisecond.
refusal_tells_the_moment_of_the_wait_told :
    evicted rate (moment 2) false (two_slots 12 8 1 0 0 5)
    ≡ outcome (Err (record { wait = moment 1000000; moment = moment 1000002 })) (two_slots 12 8 0 2 1 5)
unfolding evicted walked walk_from noted shortfall_at grown wait_at ceil_div Ledger.recorded Ledger.recorded_at
    Ledger.place_of Ledger.make_room Ledger.scan Ledger.scan_from Ledger.drop_chosen lowest_from
refusal_tells_the_moment_of_the_wait_told = refl

-- The soonest recovery is 2 ms, that of the second slot, and the ledger's wait 3 ms; then the recovery is 3 ms and the ledger's wait 1.5 ms.
refusal_waits_for_the_soonest_recovery :
    evicted rate (moment 0) false (two_slots 8000000 4000000 1 0 0 3000000)
    ≡ outcome (Err (due_after (moment 0) (moment 2000000))) (two_slots 8000000 4000000 0 2 1 3000000)
unfolding evicted walked walk_from noted shortfall_at grown wait_at ceil_div Ledger.recorded Ledger.recorded_at
    Ledger.place_of Ledger.make_room Ledger.scan Ledger.scan_from Ledger.drop_chosen lowest_from
refusal_waits_for_the_soonest_recovery = refl

refusal_waits_for_the_ledger :
    evicted rate (moment 0) false (two_slots 8000000 6000000 1 0 0 1500000)
    ≡ outcome (Err (due_after (moment 0) (moment 1500000))) (two_slots 8000000 6000000 0 2 1 1500000)
unfolding evicted walked walk_from noted shortfall_at grown wait_at ceil_div Ledger.recorded Ledger.recorded_at
    Ledger.place_of Ledger.make_room Ledger.scan Ledger.scan_from Ledger.drop_chosen lowest_from
refusal_waits_for_the_ledger = refl

-- Where debts may be forgotten the ledger's debt gives way, and the first looked at goes.
forgetting_makes_room :
    evicted rate (moment 0) true (two_slots 8 4 1 0 0 3) ≡ outcome (Ok tt) (shard 1 1 0 (slot 2 4 0 0 ∷ no_slot ∷ []) (ledger 1 1 (owing 1 4 ∷ [])))
unfolding evicted walked walk_from noted shortfall_at grown wait_at ceil_div remove_at removed Ledger.recorded Ledger.recorded_at
    Ledger.place_of Ledger.make_room Ledger.scan Ledger.scan_from Ledger.drop_chosen Ledger.remove_at Ledger.append lowest_from
forgetting_makes_room = refl

-- The clock was set back, and a stamp is after the moment. The debt of such a slot settles when the bucket is due to be full: 3 ns until the stamp, and 4 ns.
abbrev ahead : ℕ → ℕ → ℕ → ℕ → Slot
ahead number shortfall stamp mark = record {
  hash = number;
  key = number;
  bucket = record { shortfall = shortfall; stamp = moment stamp };
  mark = mark;
  seen = record { 0 = 0 };
  turned_away = 0;
}

debt_settles_after_the_stamp :
    evicted rate (moment 0) false (shard 1 0 0 (ahead 1 8 3 0 ∷ []) no_debts) ≡ outcome (Ok tt) (shard 0 1 0 (no_slot ∷ []) (ledger 1 0 (owing 1 7 ∷ [])))
unfolding evicted walked walk_from noted shortfall_at grown wait_at ceil_div remove_at removed Ledger.recorded Ledger.recorded_at
    Ledger.place_of Ledger.append lowest_from
debt_settles_after_the_stamp = refl

-- That moment is held to 64 bits.
debt_settles_at_the_last_moment :
    evicted rate (moment 2) false (shard 1 0 0 (ahead 1 8 (2 ^ 64 - 3) 0 ∷ []) no_debts)
    ≡ outcome (Ok tt) (shard 0 1 0 (no_slot ∷ []) (ledger 1 0 (owing 1 (2 ^ 64 - 1) ∷ [])))
unfolding evicted walked walk_from noted shortfall_at grown wait_at ceil_div remove_at removed Ledger.recorded Ledger.recorded_at
    Ledger.place_of Ledger.append lowest_from
debt_settles_at_the_last_moment = refl

-- A refusal: the first slot lacks more, and recovers in 4 ms. The second recovers in 2 ms from its stamp on. With a stamp 1 ms ahead it is the soonest. With
-- one that is 3 ms ahead the first is. The ledger's debt settles in 9 ms.
abbrev one_ahead : ℕ → ℕ → ℕ → ℕ → Shard
one_ahead stamp mark hand cursor = shard 2 hand 0 (slot 1 8000000 mark 0 ∷ ahead 2 4000000 stamp mark ∷ []) (ledger 1 cursor (owing 9 9000000 ∷ []))

refusal_waits_for_a_stamp :
    evicted rate (moment 0) false (one_ahead 1000000 1 0 0) ≡ outcome (Err (due_after (moment 0) (moment 3000000))) (one_ahead 1000000 0 2 1)
unfolding evicted walked walk_from noted shortfall_at grown wait_at ceil_div Ledger.recorded Ledger.recorded_at
    Ledger.place_of Ledger.make_room Ledger.scan Ledger.scan_from Ledger.drop_chosen lowest_from
refusal_waits_for_a_stamp = refl

refusal_waits_for_the_larger_shortfall :
    evicted rate (moment 0) false (one_ahead 3000000 1 0 0) ≡ outcome (Err (due_after (moment 0) (moment 4000000))) (one_ahead 3000000 0 2 1)
unfolding evicted walked walk_from noted shortfall_at grown wait_at ceil_div Ledger.recorded Ledger.recorded_at
    Ledger.place_of Ledger.make_room Ledger.scan Ledger.scan_from Ledger.drop_chosen lowest_from
refusal_waits_for_the_larger_shortfall = refl

-- Every slot is ahead: the soonest of their recoveries, 6 ms.
abbrev all_ahead : ℕ → ℕ → ℕ → Shard
all_ahead mark hand cursor = shard 2 hand 0 (ahead 1 8000000 2000000 mark ∷ ahead 2 4000000 5000000 mark ∷ []) (ledger 1 cursor (owing 9 9000000 ∷ []))

refusal_waits_where_all_are_ahead :
    evicted rate (moment 0) false (all_ahead 1 0 0) ≡ outcome (Err (due_after (moment 0) (moment 6000000))) (all_ahead 0 2 1)
unfolding evicted walked walk_from noted shortfall_at grown wait_at ceil_div Ledger.recorded Ledger.recorded_at
    Ledger.place_of Ledger.make_room Ledger.scan Ledger.scan_from Ledger.drop_chosen lowest_from
refusal_waits_where_all_are_ahead = refl
