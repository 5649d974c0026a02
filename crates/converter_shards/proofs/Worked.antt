-- Document 01's layout and request 14's sentences, each worked on a small shard.
use Prim.Native.Nat.{ℕ}
use mathlib.Core.Path.{◌≡◌, refl}
use mathlib.Core.List.{List, [], ◌∷◌}
use mathlib.Core.Bool.{true, false}
use lib.ListN.{get_or}
use Rattle.rows.specs.Rows.{rows, unrow}
use Rattle.index.specs.Walk.{onward, walk_from, walk, seek, add}
use Rattle.index.specs.Exact.{copies}
use Rattle.held.specs.Layout.{table_in}
use Rattle.ledger.specs.Layout as Ledger
use Rattle.shard_map.specs.Layout.{shard, words_of}
use Rattle.converter_shards.specs.Layout01.{ledger01, shard01, words01, ledger_words_of01}
use Rattle.converter_shards.specs.Checks.{any_below, has_twins, shard_twins, any_used, used_past, used_past_by, shard_used_past01, shard_used_past, count_over}
use Rattle.converter_shards.specs.Checks.{unplaced, exactly}
use Rattle.converter_shards.specs.Forth.{added_up_to, forth, back}

-- A shard of one place: a slot of hash 7 and key 8 with a mark, and a debt of hash 6. The hand, the sweep and the cursor stand past the counts. Forth all 13
-- words stay as they are, and the slot gets a seventh word, which is 0. The slot's home is place 1 of 2, the debt's place 0 of 2.
abbrev one : List ℕ
one = 1 ∷ 5 ∷ 6 ∷ 7 ∷ 8 ∷ 900 ∷ 10 ∷ 3 ∷ 11 ∷ 1 ∷ 9 ∷ 6 ∷ 99 ∷ []

forth_adds_the_indexes : words_of (forth 1 (shard01 1 one)) ≡ 1 ∷ 5 ∷ 6 ∷ 7 ∷ 8 ∷ 900 ∷ 10 ∷ 3 ∷ 11 ∷ 0 ∷ 1 ∷ 9 ∷ 6 ∷ 99 ∷ 0 ∷ 1 ∷ 1 ∷ 0 ∷ []
unfolding words_of Ledger.words_of forth shard01 ledger01 table_in rows unrow added_up_to onward walk_from walk seek add
forth_adds_the_indexes = refl

-- Two slots of hash 7: the one with key 8, the other with the key that is given. Two debts of the hashes that are given.
abbrev two : ℕ → ℕ → ℕ → List ℕ
two key hash hash' = 2 ∷ 0 ∷ 0 ∷ 7 ∷ 8 ∷ 0 ∷ 0 ∷ 0 ∷ 0 ∷ 7 ∷ key ∷ 0 ∷ 0 ∷ 0 ∷ 0 ∷ 2 ∷ 0 ∷ hash ∷ 5 ∷ hash' ∷ 6 ∷ []

slots_of_one_hash_and_two_keys_differ : shard_twins (shard01 2 (two 9 1 2)) ≡ false
unfolding shard_twins has_twins any_below shard01 ledger01 table_in rows
slots_of_one_hash_and_two_keys_differ = refl

slots_of_one_hash_and_key_are_twins : shard_twins (shard01 2 (two 8 1 2)) ≡ true
unfolding shard_twins has_twins any_below shard01 ledger01 table_in rows
slots_of_one_hash_and_key_are_twins = refl

debts_of_one_hash_are_twins : shard_twins (shard01 2 (two 9 1 1)) ≡ true
unfolding shard_twins has_twins any_below shard01 ledger01 table_in rows
debts_of_one_hash_are_twins = refl

-- A shard of one place that holds nothing: a slot's last word or a debt's last word past the count, and a hand past it.
abbrev none : ℕ → ℕ → List ℕ
none seen settles = 0 ∷ 4 ∷ 4 ∷ 0 ∷ 0 ∷ 0 ∷ 0 ∷ 0 ∷ seen ∷ 0 ∷ 4 ∷ 0 ∷ settles ∷ []

zeros_past_the_count_are_taken : shard_used_past01 (shard01 1 (none 0 0)) ≡ false
unfolding used_past_by used_past any_used any_below shard01 ledger01 table_in rows unrow
zeros_past_the_count_are_taken = refl

slot_word_past_the_count_is_found : shard_used_past01 (shard01 1 (none 1 0)) ≡ true
unfolding used_past_by used_past any_used any_below shard01 ledger01 table_in rows unrow
slot_word_past_the_count_is_found = refl

debt_word_past_the_count_is_found : shard_used_past01 (shard01 1 (none 0 1)) ≡ true
unfolding used_past_by used_past any_used any_below shard01 ledger01 table_in rows unrow
debt_word_past_the_count_is_found = refl

-- Back the same slot with 5 tries turned away: the words are those of document 01 again, and the 5 is dropped.
back_drops_the_count_and_the_indexes : words01 (back (shard 1 (1 ∷ 5 ∷ 6 ∷ 7 ∷ 8 ∷ 900 ∷ 10 ∷ 3 ∷ 11 ∷ 5 ∷ 1 ∷ 9 ∷ 6 ∷ 99 ∷ 0 ∷ 1 ∷ 1 ∷ 0 ∷ []))) ≡ one
unfolding shard Ledger.ledger words01 ledger_words_of01 table_in rows unrow
back_drops_the_count_and_the_indexes = refl

-- Back the seventh word past a count is looked at, too.
seventh_word_past_the_count_is_found : shard_used_past (shard 1 (0 ∷ 0 ∷ 0 ∷ 0 ∷ 0 ∷ 0 ∷ 0 ∷ 0 ∷ 0 ∷ 1 ∷ [])) ≡ true
unfolding used_past_by used_past any_used any_below shard Ledger.ledger table_in rows unrow
seventh_word_past_the_count_is_found = refl

-- A count may be the cap, and no more.
count_of_the_cap_is_taken : count_over 2 (shard01 2 (two 9 1 2)) ≡ false
unfolding count_over shard01 ledger01 table_in
count_of_the_cap_is_taken = refl

count_over_the_cap_is_found : count_over 1 (shard01 1 (2 ∷ [])) ≡ true
unfolding count_over shard01 ledger01 table_in
count_over_the_cap_is_found = refl

-- Four places and two items, both of home 2: the second stands after the first.
abbrev hashes : ℕ → ℕ
hashes i = get_or (2 ∷ 6 ∷ []) i 0

index_in_order_is_exact : exactly hashes 2 (0 ∷ 0 ∷ 1 ∷ 2 ∷ []) ≡ true
unfolding exactly unplaced copies any_below onward walk_from walk seek
index_in_order_is_exact = refl

-- The other order is exact too: an index of a store that has grown need not be built in order.
index_in_another_order_is_exact : exactly hashes 2 (0 ∷ 0 ∷ 2 ∷ 1 ∷ []) ≡ true
unfolding exactly unplaced copies any_below onward walk_from walk seek
index_in_another_order_is_exact = refl

-- An item behind an empty place, a place too many, an item that is missing.
item_behind_an_empty_place_is_not_exact : exactly hashes 2 (2 ∷ 0 ∷ 1 ∷ 0 ∷ []) ≡ false
unfolding exactly unplaced copies any_below onward walk_from walk seek
item_behind_an_empty_place_is_not_exact = refl

word_of_no_item_is_not_exact : exactly hashes 2 (3 ∷ 0 ∷ 1 ∷ 2 ∷ []) ≡ false
unfolding exactly unplaced copies any_below onward walk_from walk seek
word_of_no_item_is_not_exact = refl

missing_item_is_not_exact : exactly hashes 2 (0 ∷ 0 ∷ 1 ∷ 1 ∷ []) ≡ false
unfolding exactly unplaced copies any_below onward walk_from walk seek
missing_item_is_not_exact = refl
