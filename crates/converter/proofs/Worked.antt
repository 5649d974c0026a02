-- Request 14's sentences over a whole store, each worked on two shards of two places. A shard of document 01 has 21 words here.
use Prim.Native.Nat.{ℕ}
use mathlib.Core.Path.{◌≡◌, refl}
use mathlib.Core.List.{List, [], ◌∷◌, ◌++◌}
use Rattle.rows.specs.Places.{sum}
use Rattle.rows.specs.Rows.{rows, unrow}
use Rattle.held.specs.Layout.{table_in}
use Rattle.converter_shards.specs.Layout01.{ledger01, shard01}
use Rattle.converter_shards.specs.Checks.{any_below, has_twins, shard_twins, any_used, used_past, used_past_by, count_over}
use Rattle.converter.specs.declared.Layout.TheVariants.{Old, Present}
use Rattle.converter.specs.Layouts.{start_of, slots_of}
use Rattle.converter.specs.Conversion.{refused_by, source_refusal}

-- A shard with a slot count, two slots of hash 7 and the keys that are given, no debt, and the last word of the debts as given.
abbrev slots : ℕ → ℕ → ℕ → ℕ → List ℕ
slots count key key' past =
    count ∷ 0 ∷ 0 ∷ 7 ∷ key ∷ 1 ∷ 1 ∷ 1 ∷ 1 ∷ 7 ∷ key' ∷ 1 ∷ 1 ∷ 1 ∷ 1 ∷ 0 ∷ 0 ∷ 0 ∷ 0 ∷ 0 ∷ past ∷ []

-- A word past a count in the first shard, and twins in the last: 18. Without the twins 19. With a count over the cap in the last shard 5.
twins_in_the_last_shard_come_first : source_refusal Old 2 2 (slots 2 8 9 1 ++ slots 2 8 8 0) ≡ 18
unfolding source_refusal refused_by shard_twins has_twins any_below count_over used_past_by used_past any_used shard01 ledger01 table_in rows unrow
twins_in_the_last_shard_come_first = refl

word_past_a_count_in_the_first_shard : source_refusal Old 2 2 (slots 2 8 9 1 ++ slots 2 8 9 0) ≡ 19
unfolding source_refusal refused_by shard_twins has_twins any_below count_over used_past_by used_past any_used shard01 ledger01 table_in rows unrow
word_past_a_count_in_the_first_shard = refl

count_over_the_cap_in_the_last_shard : source_refusal Old 2 2 (slots 2 8 8 1 ++ slots 3 8 8 0) ≡ 5
unfolding source_refusal refused_by shard_twins has_twins any_below count_over used_past_by used_past any_used shard01 ledger01 table_in rows unrow
count_over_the_cap_in_the_last_shard = refl

-- Nothing is wrong: 0. The total is the slots of both shards.
sound_source_is_taken : source_refusal Old 2 2 (slots 2 8 9 0 ++ slots 2 9 8 0) ≡ 0
unfolding source_refusal refused_by shard_twins has_twins any_below count_over used_past_by used_past any_used shard01 ledger01 table_in rows unrow
sound_source_is_taken = refl

total_is_of_both_shards : slots_of Old 2 2 (slots 2 8 9 0 ++ slots 2 9 8 0) ≡ 4
unfolding sum shard01 ledger01 table_in rows
total_is_of_both_shards = refl

-- The words of such a store: 42 by document 01, 63 at present.
words_by_document_01 : start_of Old 2 2 ≡ 42
words_by_document_01 = refl

words_at_present : start_of Present 2 2 ≡ 63
words_at_present = refl
