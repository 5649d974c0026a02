-- A shard in its words, found by the index in them; and the sentences of document 01 on the idle sweep, each worked on a small shard in place order. There a
-- slot's hash and key are the same small number, its stamp is moment 0, and a free place is `no_slot`. Two parts come back each nanosecond.
use Rattle.std.proofs.Common.{Some, None}
use Prim.Native.Nat.{ℕ, ◌+◌}
use mathlib.Core.Path.{◌≡◌, refl}
use mathlib.Core.List.{List, [], ◌∷◌}
use lib.ListN.{replicate}
use Rattle.units.specs.declared.Nanos.{Nanos}
use Rattle.units.specs.declared.Millis.{Millis}
use Rattle.bucket.specs.declared.BucketConfig.{BucketConfig}
use Rattle.bucket.specs.Bucket.{shortfall_at}
use Rattle.settings.specs.Eviction.{ttl_sweep}
use Rattle.rows.specs.Rows.{rows, unrow}
use Rattle.index.specs.Walk as Index
use Rattle.held.specs.Held.{in_order, by_index, removed}
use Rattle.held.specs.Layout.{table_in}
use Rattle.held.specs.Round as Round
use Rattle.slot.specs.declared.Slot.{Slot}
use Rattle.ledger.specs.declared.Debt.{Debt}
use Rattle.ledger.specs.Model as Ledger
use Rattle.ledger.specs.Layout as LedgerLayout
use Rattle.shard_map.specs.Model.{Shard, no_slot, place_of, remove_at, insert, sweep_idle}
use Rattle.shard_map.specs.Layout as Layout

abbrev pub rate : BucketConfig
rate = record { capacity = 4; amount = 2; period = record { 0 = 10 }; initial = 4 }

abbrev pub moment : ℕ → Nanos
moment n = record { 0 = n }

abbrev ms : ℕ → Millis
ms n = record { 0 = n }

-- A slot by its number, its shortfall, its mark and the millisecond of its last-seen.
abbrev pub slot : ℕ → ℕ → ℕ → ℕ → Slot
slot number shortfall mark seen =
    record { hash = number; key = number; bucket = record { shortfall = shortfall; stamp = moment 0 }; mark = mark; seen = ms seen; turned_away = 0 }

-- A ledger by its count, its cursor and what stands in all its places, and a shard by its count, its hand, its sweep, its places and its ledger.
abbrev pub ledger : ℕ → ℕ → List Debt → Ledger.Ledger
ledger count cursor places = record { debts = record { count = count; places = places; finding = in_order }; cursor = cursor; others = [] }

abbrev pub shard : ℕ → ℕ → ℕ → List Slot → Ledger.Ledger → Shard
shard count hand sweep places l = record { slots = record { count = count; places = places; finding = in_order }; hand = hand; sweep = sweep; ledger = l }

abbrev pub no_debts : Ledger.Ledger
no_debts = ledger 0 0 (Ledger.no_debt ∷ [])

-- A shard with room for one slot in its words: the count, the hand, the sweep and the slot; then the ledger's count, its cursor and its debt, the two places of
-- the slots' index, and the two of the debts'. The slot of hash 5 and key 7 stands in the second place, its hash's home. Lookup finds it by that, for its own
-- key.
abbrev in_words : List ℕ
in_words = 1 ∷ 0 ∷ 0 ∷ 5 ∷ 7 ∷ 0 ∷ 0 ∷ 0 ∷ 0 ∷ 9 ∷ 0 ∷ 0 ∷ 0 ∷ 0 ∷ 0 ∷ 1 ∷ 0 ∷ 0 ∷ []

abbrev five_seven : Slot
five_seven = record { hash = 5; key = 7; bucket = record { shortfall = 0; stamp = moment 0 }; mark = 0; seen = ms 0; turned_away = 9 }

abbrev empty_ledger : Ledger.Ledger
empty_ledger = record { debts = record { count = 0; places = Ledger.no_debt ∷ []; finding = by_index (0 ∷ 0 ∷ []) }; cursor = 0; others = [] }

abbrev indexed : Shard
indexed = record { slots = record { count = 1; places = five_seven ∷ []; finding = by_index (0 ∷ 1 ∷ []) }; hand = 0; sweep = 0; ledger = empty_ledger }

abbrev emptied : Shard
emptied = record { slots = record { count = 0; places = no_slot ∷ []; finding = by_index (0 ∷ 0 ∷ []) }; hand = 0; sweep = 0; ledger = empty_ledger }

a_shard_in_words : Layout.shard 1 in_words ≡ indexed
unfolding Layout.shard LedgerLayout.ledger table_in rows
a_shard_in_words = refl

a_shard_as_words : Layout.words_of indexed ≡ in_words
unfolding Layout.words_of LedgerLayout.words_of unrow
a_shard_as_words = refl

found_by_the_index : place_of indexed 5 7 ≡ Some 0
unfolding place_of Index.find Index.find_from Index.walk_from Index.onward
found_by_the_index = refl

another_key_is_not_found : place_of indexed 5 8 ≡ None
unfolding place_of Index.find Index.find_from Index.walk_from Index.onward
another_key_is_not_found = refl

-- Once the slot is removed, its place in the index is empty; inserted again, it stands there again.
removed_from_the_index : remove_at indexed 0 ≡ emptied
unfolding remove_at removed Index.remove Index.vacate Index.renumber Index.seek Index.walk Index.walk_from Index.onward Index.rehome
removed_from_the_index = refl

inserted_into_the_index : insert emptied five_seven ≡ indexed
unfolding insert Index.add Index.seek Index.walk Index.walk_from Index.onward
inserted_into_the_index = refl

-- The idle sweep, with a limit of 2 ms, at 2 ms: by then 4,000,000 parts have come back.
abbrev swept_at_two : ℕ → Shard → Shard
swept_at_two looks s = sweep_idle rate (moment 2000000) (ms 2) looks s

-- Two looks from place 1: the idle slot there goes, the last one moves into the gap, is looked at next, and goes too. The hand stays.
idle_sweep_looks_at_the_moved_slot :
    swept_at_two 2 (shard 3 3 1 (slot 1 0 0 1 ∷ slot 2 0 1 0 ∷ slot 3 4000000 0 0 ∷ []) no_debts) ≡ shard 1 3 1 (slot 1 0 0 1 ∷ no_slot ∷ no_slot ∷ []) no_debts
unfolding sweep_idle Round.sweep Round.look Round.look_at shortfall_at removed
idle_sweep_looks_at_the_moved_slot = refl

-- A slot that is idle but not full stays, as does one that is full but not idle; the sweep advances, and past the last slot the looks go on from the first.
idle_sweep_leaves_what_is_not_full :
    swept_at_two 1 (shard 2 0 0 (slot 1 4000001 0 0 ∷ slot 2 0 0 0 ∷ []) no_debts) ≡ shard 2 0 1 (slot 1 4000001 0 0 ∷ slot 2 0 0 0 ∷ []) no_debts
unfolding sweep_idle Round.sweep Round.look Round.look_at shortfall_at removed
idle_sweep_leaves_what_is_not_full = refl

idle_sweep_goes_round :
    swept_at_two 2 (shard 2 0 1 (slot 1 0 0 0 ∷ slot 2 0 0 1 ∷ []) no_debts) ≡ shard 1 0 0 (slot 2 0 0 1 ∷ no_slot ∷ []) no_debts
unfolding sweep_idle Round.sweep Round.look Round.look_at shortfall_at removed
idle_sweep_goes_round = refl

-- An idle sweep takes its looks, and no more: of idle slots one more than there are looks, one is left.
an_idle_sweep_takes_its_looks :
    swept_at_two ttl_sweep (shard (ttl_sweep + 1) 0 0 (replicate (ttl_sweep + 1) (slot 1 0 0 0)) no_debts)
    ≡ shard 1 0 0 (slot 1 0 0 0 ∷ replicate ttl_sweep no_slot) no_debts
unfolding sweep_idle Round.sweep Round.look Round.look_at shortfall_at removed
an_idle_sweep_takes_its_looks = refl

-- The looks end once no slot is left, and an empty shard's sweep stays where it is.
idle_sweep_ends_when_empty : swept_at_two ttl_sweep (shard 0 0 7 (no_slot ∷ []) no_debts) ≡ shard 0 0 7 (no_slot ∷ []) no_debts
unfolding sweep_idle Round.sweep Round.look Round.look_at shortfall_at removed
idle_sweep_ends_when_empty = refl
