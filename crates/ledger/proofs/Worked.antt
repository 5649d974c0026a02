-- The sentences of document 01 on the ledger, each worked on a small one. Hashes are small numbers and moments count from 0; a free place is `no_debt`.
use Rattle.std.proofs.Common.{Some, Ok}
use Prim.Native.Nat.{ℕ, ◌+◌, ◌^◌, ◌-◌}
use mathlib.Core.Path.{◌≡◌, refl}
use mathlib.Core.Bool.{true, false}
use mathlib.Core.List.{List, [], ◌∷◌, ◌++◌}
use lib.ListN.{replicate}
use Rattle.units.specs.declared.Nanos.{Nanos}
use Rattle.bucket.specs.declared.BucketConfig.{BucketConfig}
use Rattle.settings.specs.Eviction.{ledger_scan}
use Rattle.rows.specs.Places.{lowest_from}
use Rattle.rows.specs.Rows.{rows}
use Rattle.index.specs.Walk as Index
use Rattle.held.specs.Held.{in_order, by_index, removed}
use Rattle.held.specs.Layout.{table_in}
use Rattle.held.specs.Round as Round
use Rattle.rows.specs.Outcome.{outcome}
use Rattle.ledger.specs.declared.Debt.{Debt}
use Rattle.ledger.specs.Model.{no_room, Ledger, no_debt, place_of, remove_at, append, taken, sweep, scan_from, scan, drop_chosen, make_room, recorded_at}
use Rattle.ledger.specs.Model.{recorded, paid_down}
use Rattle.ledger.specs.Layout.{ledger}

-- A moment by its nanoseconds.
abbrev moment : ℕ → Nanos
moment n = record { 0 = n }

-- A debt, and a ledger: how many debts are held, the cursor, and what stands in all its places. Two words lie past them; every operation keeps these.
abbrev owing : ℕ → ℕ → Debt
owing hash settles = record { hash = hash; settles = moment settles }

abbrev holding : ℕ → ℕ → List Debt → Ledger
holding count cursor places = record { debts = record { count = count; places = places; finding = in_order }; cursor = cursor; others = 6 ∷ 7 ∷ [] }

-- A ledger with room for one debt in its words: the count, the cursor, the debt, two words that are not its own, and the two places of the index. The debt of
-- hash 5 stands in the second place, its hash's home, and lookup finds it by that.
abbrev in_words : List ℕ
in_words = 1 ∷ 0 ∷ 5 ∷ 9 ∷ 6 ∷ 7 ∷ 0 ∷ 1 ∷ []

abbrev indexed_five : Ledger
indexed_five = record { debts = record { count = 1; places = owing 5 9 ∷ []; finding = by_index (0 ∷ 1 ∷ []) }; cursor = 0; others = 6 ∷ 7 ∷ [] }

a_ledger_in_words : ledger 1 in_words ≡ indexed_five
unfolding ledger table_in rows
a_ledger_in_words = refl

found_by_the_index : place_of indexed_five 5 ≡ Some 0
unfolding place_of Index.find Index.find_from Index.walk_from Index.onward
found_by_the_index = refl

-- Once the debt is taken out, its place in the index is empty.
taken_out_of_the_index : (taken indexed_five 5).after.debts.finding ≡ by_index (0 ∷ 0 ∷ [])
unfolding taken place_of remove_at removed Index.find Index.find_from Index.walk_from Index.onward Index.remove Index.vacate Index.renumber Index.seek
    Index.walk
    Index.rehome
taken_out_of_the_index = refl

-- Two looks from place 1 at moment 5: the settled debt there goes, the last one moves into the gap, is looked at next, and goes too.
sweep_looks_at_the_moved_debt : sweep (moment 5) 2 (holding 3 1 (owing 1 10 ∷ owing 2 5 ∷ owing 3 5 ∷ [])) ≡ holding 1 1 (owing 1 10 ∷ no_debt ∷ no_debt ∷ [])
unfolding sweep Round.sweep Round.look Round.look_at removed
sweep_looks_at_the_moved_debt = refl

-- An unsettled debt stays and the cursor advances; past the last debt the looks go on from the first.
sweep_goes_round : sweep (moment 5) 3 (holding 3 2 (owing 1 4 ∷ owing 2 10 ∷ owing 3 10 ∷ [])) ≡ holding 2 1 (owing 3 10 ∷ owing 2 10 ∷ no_debt ∷ [])
unfolding sweep Round.sweep Round.look Round.look_at removed
sweep_goes_round = refl

-- A sweep takes its looks, and no more: of settled debts one more than there are looks, one is left.
a_sweep_takes_its_looks :
    sweep (moment 5) ledger_scan (holding (ledger_scan + 1) 0 (replicate (ledger_scan + 1) (owing 1 5)))
    ≡ holding 1 0 (owing 1 5 ∷ replicate ledger_scan no_debt)
unfolding sweep Round.sweep Round.look Round.look_at removed
a_sweep_takes_its_looks = refl

-- The looks end once no debt is left, and the cursor stays as it is.
sweep_ends_when_empty : sweep (moment 5) ledger_scan (holding 1 0 (owing 1 5 ∷ no_debt ∷ [])) ≡ holding 0 0 (no_debt ∷ no_debt ∷ [])
unfolding sweep Round.sweep Round.look Round.look_at removed
sweep_ends_when_empty = refl

empty_sweep_leaves_the_cursor : sweep (moment 5) ledger_scan (holding 0 7 (no_debt ∷ [])) ≡ holding 0 7 (no_debt ∷ [])
unfolding sweep Round.sweep Round.look Round.look_at removed
empty_sweep_leaves_the_cursor = refl

-- A hash that is there keeps the later moment, in a full ledger too and without a look.
abbrev one_and_two : Ledger
one_and_two = holding 2 0 (owing 1 10 ∷ owing 2 20 ∷ [])

merge_takes_the_later_moment : recorded one_and_two (owing 1 15) (moment 12) false ≡ outcome (Ok tt) (holding 2 0 (owing 1 15 ∷ owing 2 20 ∷ []))
unfolding recorded recorded_at place_of lowest_from
merge_takes_the_later_moment = refl

merge_keeps_the_later_moment : recorded one_and_two (owing 2 15) (moment 12) false ≡ outcome (Ok tt) one_and_two
unfolding recorded recorded_at place_of lowest_from
merge_keeps_the_later_moment = refl

-- Where there is room the new debt goes last.
new_debt_goes_last : recorded (holding 1 0 (owing 1 10 ∷ no_debt ∷ [])) (owing 2 20) (moment 15) false ≡ outcome (Ok tt) one_and_two
unfolding recorded recorded_at place_of lowest_from append
new_debt_goes_last = refl

-- At the cap the first settled debt is dropped, here the second one looked at, and the cursor rests there. The other debt that is settled stays.
settled_debt_makes_room :
    recorded (holding 3 0 (owing 1 30 ∷ owing 2 5 ∷ owing 3 4 ∷ [])) (owing 4 50) (moment 5) true
    ≡ outcome (Ok tt) (holding 3 1 (owing 1 30 ∷ owing 3 4 ∷ owing 4 50 ∷ []))
unfolding recorded recorded_at place_of lowest_from make_room scan scan_from drop_chosen append remove_at removed
settled_debt_makes_room = refl

-- No debt is settled: the soonest is dropped where debts may be forgotten, the first of equals.
abbrev none_settled : ℕ → Ledger
none_settled cursor = holding 3 cursor (owing 1 30 ∷ owing 2 20 ∷ owing 3 20 ∷ [])

soonest_debt_is_forgotten : recorded (none_settled 0) (owing 4 50) (moment 5) true ≡ outcome (Ok tt) (holding 3 3 (owing 1 30 ∷ owing 3 20 ∷ owing 4 50 ∷ []))
unfolding recorded recorded_at place_of lowest_from make_room scan scan_from drop_chosen append remove_at removed
soonest_debt_is_forgotten = refl

-- Where they may not, nothing is dropped and the wait until the soonest settles is told; the cursor has gone past the debts looked at.
refusal_tells_the_wait : recorded (none_settled 0) (owing 4 50) (moment 5) false ≡ outcome (no_room (moment 15)) (none_settled 3)
unfolding recorded recorded_at place_of lowest_from make_room scan scan_from drop_chosen
refusal_tells_the_wait = refl

-- Recording takes its looks, and no more. Here is one debt more than there are looks: the last one, the soonest, is not seen, and the wait is that of the
-- soonest of the others.
abbrev one_too_many : ℕ → Ledger
one_too_many cursor = holding (ledger_scan + 1) cursor (replicate 3 (owing 1 90) ++ owing 2 80 ∷ replicate (ledger_scan - 4) (owing 3 90) ++ owing 4 40 ∷ [])

recording_takes_its_looks : recorded (one_too_many 0) (owing 5 50) (moment 30) false ≡ outcome (no_room (moment 50)) (one_too_many ledger_scan)
unfolding recorded recorded_at place_of lowest_from make_room scan scan_from drop_chosen
recording_takes_its_looks = refl

-- A debt is taken out: its moment is told, and the last debt moves into its place.
taken_out : taken (none_settled 0) 1 ≡ outcome (Some (moment 30)) (holding 2 0 (owing 3 20 ∷ owing 2 20 ∷ no_debt ∷ []))
unfolding taken place_of lowest_from remove_at removed
taken_out = refl

-- Two tokens a second: a token refunded takes half a second off, and no debt settles before moment 0.
abbrev rate : ℕ → ℕ → BucketConfig
rate amount period = record { capacity = 4; amount = amount; period = record { 0 = period }; initial = 4 }

refund_takes_half_a_second_off : paid_down (holding 1 0 (owing 7 2000000000 ∷ [])) 7 1 (rate 2 1000000000)
    ≡ outcome true (holding 1 0 (owing 7 1500000000 ∷ []))
unfolding paid_down place_of lowest_from
refund_takes_half_a_second_off = refl

refund_stops_at_zero : paid_down (holding 1 0 (owing 7 2000000000 ∷ [])) 7 5 (rate 2 1000000000) ≡ outcome true (holding 1 0 (owing 7 0 ∷ []))
unfolding paid_down place_of lowest_from
refund_stops_at_zero = refl

-- The time that a token takes is rounded down before it is multiplied.
refund_rounds_a_token_down : paid_down (holding 1 0 (owing 7 100 ∷ [])) 7 2 (rate 3 10) ≡ outcome true (holding 1 0 (owing 7 94 ∷ []))
unfolding paid_down place_of lowest_from
refund_rounds_a_token_down = refl

-- The product is held to 64 bits; a moment that no word holds shows it.
refund_is_held_to_64_bits : paid_down (holding 1 0 (owing 7 (2 ^ 64) ∷ [])) 7 (2 ^ 32 - 1) (rate 1 (2 ^ 46)) ≡ outcome true (holding 1 0 (owing 7 1 ∷ []))
unfolding paid_down place_of lowest_from
refund_is_held_to_64_bits = refl

-- No debt of the hash: nothing is paid, and that is told.
refund_of_no_debt : paid_down one_and_two 3 1 (rate 2 1000000000) ≡ outcome false one_and_two
unfolding paid_down place_of lowest_from
refund_of_no_debt = refl
