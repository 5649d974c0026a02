-- The sentences of request 3 on an index, each worked on a small one. An index is written as its words, and the items by their hashes, item 0 first.
use Rattle.std.proofs.Common.{◌≡◌, ℕ, Bool, true, eqb, List, [], ◌∷◌, get_or, replicate, refl, Some, None}
use Rattle.index.specs.Walk.{onward, walk_from, walk, find_from, find, seek, add, add_again, rehome, vacate, renumber, remove}

-- Items of these hashes.
abbrev items : List ℕ → ℕ → ℕ
items hashes i = get_or hashes i 0

-- Every item passes, or item i alone does.
abbrev any : ℕ → Bool
any i = true

abbrev item : ℕ → ℕ → Bool
item i = eqb i

-- Four places. Item 0, of hash 6, fills its home, place 2. Item 1, of hash 2, finds it in use and fills the next place. Item 2, of hash 3, finds the last place
-- in use and goes round to the first.
added_items_fill_the_empty_places : add (add (add (replicate 4 0) 6 0) 2 1) 3 2 ≡ 3 ∷ 0 ∷ 1 ∷ 2 ∷ []
unfolding onward walk_from walk seek add
added_items_fill_the_empty_places = refl

-- A walk stops at the first empty place, though the item stands behind it.
walk_stops_at_an_empty_place : find 2 (item 1) (1 ∷ 0 ∷ 2 ∷ 0 ∷ []) 0 ≡ None
unfolding onward walk_from find_from find
walk_stops_at_an_empty_place = refl

-- A walk goes round the end.
walk_goes_round : find 2 (item 0) (1 ∷ 0 ∷ 0 ∷ 2 ∷ []) 3 ≡ Some 0
unfolding onward walk_from find_from find
walk_goes_round = refl

-- A walk looks at each place once at most: in a full index it ends past the last place.
walk_ends_after_one_round : seek (9 ∷ 9 ∷ 9 ∷ 9 ∷ []) 3 5 ≡ 4
unfolding onward walk_from walk seek
walk_ends_after_one_round = refl

-- Of two items that pass, lookup takes the first on the walk, and not the lowest.
lookup_takes_the_first_on_the_walk : find 2 any (2 ∷ 1 ∷ 0 ∷ 0 ∷ []) 0 ≡ Some 1
unfolding onward walk_from find_from find
lookup_takes_the_first_on_the_walk = refl

-- The index decides: an item that no place names is not found.
index_decides : find 1 any (0 ∷ 0 ∷ 0 ∷ 0 ∷ []) 0 ≡ None
unfolding onward walk_from find_from find
index_decides = refl

-- A walk passes over a place that names no item. With two items, 3 is the first such word.
word_over_the_count_is_passed : find 2 any (3 ∷ 1 ∷ 0 ∷ 0 ∷ []) 0 ≡ Some 0
unfolding onward walk_from find_from find
word_over_the_count_is_passed = refl

last_item_is_an_item : find 3 any (3 ∷ 1 ∷ 0 ∷ 0 ∷ []) 0 ≡ Some 2
unfolding onward walk_from find_from find
last_item_is_an_item = refl

-- A full index that is damaged: the item is found past words that name none, and where no word names one nothing is.
found_in_a_full_index : find 2 (item 1) (9 ∷ 2 ∷ 9 ∷ 9 ∷ []) 3 ≡ Some 1
unfolding onward walk_from find_from find
found_in_a_full_index = refl

nothing_in_a_full_index : find 1 any (9 ∷ 9 ∷ 9 ∷ 9 ∷ []) 3 ≡ None
unfolding onward walk_from find_from find
nothing_in_a_full_index = refl

-- An added item that gets no place is not found.
no_place_in_a_full_index : add (9 ∷ 9 ∷ 9 ∷ 9 ∷ []) 3 0 ≡ 9 ∷ 9 ∷ 9 ∷ 9 ∷ []
unfolding onward walk_from walk seek add
no_place_in_a_full_index = refl

not_found_without_a_place : find 1 any (add (9 ∷ 9 ∷ 9 ∷ 9 ∷ []) 3 0) 3 ≡ None
unfolding onward walk_from walk find_from find seek add
not_found_without_a_place = refl

-- But one that a place on its walk named before is found. One slot, two places that hold 1 and 9: the slot that is added gets no place, and is found.
no_place_beside_its_own_number : add (1 ∷ 9 ∷ []) 0 0 ≡ 1 ∷ 9 ∷ []
unfolding onward walk_from walk seek add
no_place_beside_its_own_number = refl

found_by_its_number_without_a_place : find 1 any (add (1 ∷ 9 ∷ []) 0 0) 0 ≡ Some 0
unfolding onward walk_from walk find_from find seek add
found_by_its_number_without_a_place = refl

-- Items 0 and 1 have home 0, and item 2 home 1. Item 0 leaves: the two places after its own are emptied one by one and their items added again, one place
-- nearer their homes. Then the last item, number 2, is number 0.
places_after_it_are_added_again : remove (items (0 ∷ 6 ∷ 1 ∷ [])) 3 (1 ∷ 2 ∷ 3 ∷ 0 ∷ 0 ∷ 0 ∷ []) 0 ≡ 2 ∷ 1 ∷ 0 ∷ 0 ∷ 0 ∷ 0 ∷ []
unfolding onward walk_from walk seek add add_again rehome vacate renumber remove
places_after_it_are_added_again = refl

-- The last item keeps its home, place 2: it is added again under the number that it has, and renumbered last.
renumbered_last : remove (items (0 ∷ 6 ∷ 2 ∷ [])) 3 (1 ∷ 2 ∷ 3 ∷ 0 ∷ 0 ∷ 0 ∷ []) 0 ≡ 2 ∷ 0 ∷ 1 ∷ 0 ∷ 0 ∷ 0 ∷ []
unfolding onward walk_from walk seek add add_again rehome vacate renumber remove
renumbered_last = refl

-- Removal goes round the end.
removal_goes_round : remove (items (3 ∷ 7 ∷ [])) 2 (2 ∷ 0 ∷ 0 ∷ 1 ∷ []) 0 ≡ 0 ∷ 0 ∷ 0 ∷ 1 ∷ []
unfolding onward walk_from walk seek add add_again rehome vacate renumber remove
removal_goes_round = refl

-- The last item leaves: nothing is renumbered.
last_item_leaves : remove (items (3 ∷ 7 ∷ [])) 2 (2 ∷ 0 ∷ 0 ∷ 1 ∷ []) 1 ≡ 0 ∷ 0 ∷ 0 ∷ 1 ∷ []
unfolding onward walk_from walk seek add add_again rehome vacate renumber remove
last_item_leaves = refl

-- The places after it that name no item are emptied, up to the first empty one. What stands behind that stays.
no_item_is_emptied : remove (items (0 ∷ [])) 1 (1 ∷ 9 ∷ 0 ∷ 9 ∷ []) 0 ≡ 0 ∷ 0 ∷ 0 ∷ 9 ∷ []
unfolding onward walk_from walk seek add add_again rehome vacate renumber remove
no_item_is_emptied = refl

-- An item is named twice: its first place is emptied, and the second name is added again, for the item still stands.
second_name_is_added_again : remove (items (0 ∷ [])) 1 (1 ∷ 1 ∷ 0 ∷ 0 ∷ []) 0 ≡ 1 ∷ 0 ∷ 0 ∷ 0 ∷ []
unfolding onward walk_from walk seek add add_again rehome vacate renumber remove
second_name_is_added_again = refl

-- A full index that is damaged: item 0 leaves place 0, item 1 is added again there, the two words that name no item go, and place 0 is not looked at again. So
-- item 1 is not on its walk, which starts at place 2, and is not renumbered.
each_other_place_once : remove (items (0 ∷ 2 ∷ [])) 2 (1 ∷ 2 ∷ 9 ∷ 9 ∷ []) 0 ≡ 2 ∷ 0 ∷ 0 ∷ 0 ∷ []
unfolding onward walk_from walk seek add add_again rehome vacate renumber remove
each_other_place_once = refl

-- No place on the walk of item 0 names it: nothing is emptied, and the last item is still renumbered. A place off the walk stays.
renumbered_without_a_place : remove (items (0 ∷ 1 ∷ [])) 2 (0 ∷ 2 ∷ 1 ∷ 0 ∷ []) 0 ≡ 0 ∷ 1 ∷ 1 ∷ 0 ∷ []
unfolding onward walk_from walk seek add add_again rehome vacate renumber remove
renumbered_without_a_place = refl

-- The pass stops at the first place that it meets empty, not at the first that was empty: item 1 stands off its walk and is added again in place 2, which was
-- empty. The pass then meets place 2 in use and goes on to place 3, whose word names no item.
place_filled_meanwhile_is_passed : remove (items (0 ∷ 2 ∷ [])) 2 (1 ∷ 2 ∷ 0 ∷ 9 ∷ []) 0 ≡ 0 ∷ 0 ∷ 1 ∷ 0 ∷ []
unfolding onward walk_from walk seek add add_again rehome vacate renumber remove
place_filled_meanwhile_is_passed = refl

-- The last item is named twice: both names are added again, and the first on its walk is renumbered. The other names no item then.
first_name_is_renumbered : remove (items (0 ∷ 1 ∷ [])) 2 (1 ∷ 2 ∷ 2 ∷ 0 ∷ []) 0 ≡ 0 ∷ 1 ∷ 2 ∷ 0 ∷ []
unfolding onward walk_from walk seek add add_again rehome vacate renumber remove
first_name_is_renumbered = refl
