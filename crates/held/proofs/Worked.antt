-- The two ways of finding, worked on a small value: numbers as items, each its own hash, in two places, with an index of four.
use Rattle.std.proofs.Common.{Some, None}
use Prim.Native.Nat.{ℕ}
use mathlib.Core.Path.{◌≡◌, refl}
use mathlib.Core.Bool.{Bool, true}
use mathlib.Core.List.{List, [], ◌∷◌}
use lib.ListN.{replicate}
use lib.Dec.{eqb}
use Rattle.rows.specs.Places.{lowest_from}
use Rattle.index.specs.Walk.{onward, walk_from, walk, find_from, find, seek, add, add_again, rehome, vacate, renumber, remove}
use Rattle.held.specs.Held.{Held, Items, by_index, position, appended, removed, in_place_order}

abbrev numbers : Items ℕ
numbers = record { free = 0; hash = λ x. x }

-- So many numbers, what stands in both places, and the index.
abbrev held : ℕ → List ℕ → List ℕ → Held ℕ
held count places ix = record { count = count; places = places; finding = by_index ix }

-- Any number passes, or the one that is asked for.
abbrev any : ℕ → Bool
any x = true

abbrev number : ℕ → ℕ → Bool
number x = eqb x

-- 6 and 2 have the same home, place 2. The one that comes second stands behind the first.
abbrev six_and_two : Held ℕ
six_and_two = held 2 (6 ∷ 2 ∷ []) (0 ∷ 0 ∷ 1 ∷ 2 ∷ [])

appended_items_stand_in_the_index : appended numbers (appended numbers (held 0 (0 ∷ 0 ∷ []) (replicate 4 0)) 6) 2 ≡ six_and_two
unfolding onward walk_from walk seek add
appended_items_stand_in_the_index = refl

-- 2 is found behind 6.
second_of_a_home_is_found : position numbers six_and_two 2 (number 2) ≡ Some 1
unfolding onward walk_from find_from find
second_of_a_home_is_found = refl

-- 6 leaves: 2 is added again one place nearer its home, and gets the number 0 with the place of 6.
removed_item_leaves_the_index : removed numbers six_and_two 0 ≡ held 1 (2 ∷ 0 ∷ []) (0 ∷ 0 ∷ 1 ∷ 0 ∷ [])
unfolding onward walk_from walk seek add add_again rehome vacate renumber remove removed
removed_item_leaves_the_index = refl

-- The index decides: an item that it does not name is not found, and in place order it is.
index_decides : position numbers (held 1 (2 ∷ 0 ∷ []) (replicate 4 0)) 2 any ≡ None
unfolding onward walk_from find_from find
index_decides = refl

place_order_finds_it : position numbers (in_place_order (held 1 (2 ∷ 0 ∷ []) (replicate 4 0))) 2 any ≡ Some 0
unfolding lowest_from
place_order_finds_it = refl

-- Where two items pass, the first on the walk is found, and in place order the lowest.
first_on_the_walk_is_found : position numbers (held 2 (2 ∷ 2 ∷ []) (0 ∷ 0 ∷ 2 ∷ 1 ∷ [])) 2 any ≡ Some 1
unfolding onward walk_from find_from find
first_on_the_walk_is_found = refl

lowest_is_found_in_place_order : position numbers (in_place_order (held 2 (2 ∷ 2 ∷ []) (0 ∷ 0 ∷ 2 ∷ 1 ∷ []))) 2 any ≡ Some 0
unfolding lowest_from
lowest_is_found_in_place_order = refl

-- Past the count there is no item, though the index names one.
place_past_the_count_is_no_item : position numbers (held 1 (6 ∷ 2 ∷ []) (0 ∷ 0 ∷ 1 ∷ 2 ∷ [])) 2 (number 2) ≡ None
unfolding onward walk_from find_from find
place_past_the_count_is_no_item = refl
