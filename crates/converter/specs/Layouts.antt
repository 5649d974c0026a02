-- The two layouts of a store without classes: document 01's, and the present one. What differs between them stands here, for each one: where the shards lie,
-- which shard some words are, what is damage, and the words of a shard in the other layout.
use Rattle.std.specs.Prelude.{ℕ, ◌+◌, ◌*◌, Bool, true, false, cond, not, List, eqb}
use Rattle.rows.specs.Segments.{segment}
use Rattle.rows.specs.Places.{sum}
use Rattle.shard_map.specs.Model.{Shard}
use Rattle.shard_map.specs.Layout.{shard_words, shard, words_of}
use Rattle.store.specs.Memory.{total_of, shards_at}
use Rattle.converter_shards.specs.Layout01.{shard_words01, shard01, words01}
use Rattle.converter_shards.specs.Checks.{count_over, indexes_exact, shard_used_past01, shard_used_past}
use Rattle.converter_shards.specs.Forth.{forth, back}
use Rattle.converter.specs.declared.Layout.{Layout}
use Rattle.converter.specs.declared.Layout.TheVariants.{Old, Present}

-- The layout that a store is moved to.
abbrev pub other : Layout → Layout
other Old = Present
other Present = Old

-- The words before the first shard: document 01 has none, and the present layout has the total.
abbrev pub first_word : Layout → ℕ
first_word Old = 0
first_word Present = shards_at

abbrev pub shard_size : Layout → ℕ → ℕ
shard_size Old cap = shard_words01 cap
shard_size Present cap = shard_words cap

-- The word at which a shard begins, by its number, and the word after the shard. A store of n shards has as many words as lie before shard n would begin.
abbrev pub start_of : Layout → ℕ → ℕ → ℕ
start_of layout cap i = first_word layout + i * shard_size layout cap

abbrev pub end_of : Layout → ℕ → ℕ → ℕ
end_of layout cap i = start_of layout cap i + shard_size layout cap

-- The shard that some words are.
abbrev pub shard_of : Layout → ℕ → List ℕ → Shard
shard_of Old cap ws = shard01 cap ws
shard_of Present cap ws = shard cap ws

-- The words of a shard by its number, and the shard.
abbrev pub part : Layout → ℕ → ℕ → List ℕ → List ℕ
part layout cap i ws = segment (start_of layout cap i) (shard_size layout cap) ws

abbrev pub shard_at : Layout → ℕ → ℕ → List ℕ → Shard
shard_at layout cap i ws = shard_of layout cap (part layout cap i ws)

-- The words of a shard in the other layout.
abbrev pub moved : Layout → ℕ → Shard → List ℕ
moved Old cap s = words_of (forth cap s)
moved Present cap s = words01 (back s)

-- Damage that is refused as 5: a count over the cap, and in the present layout an index that is not exact.
abbrev pub damaged : Layout → ℕ → Shard → Bool
damaged Old cap s = count_over cap s
damaged Present cap s = cond (count_over cap s) true (not (indexes_exact s))

-- Is a word past a count not 0?
abbrev pub past_used : Layout → Shard → Bool
past_used Old s = shard_used_past01 s
past_used Present s = shard_used_past s

-- The slots of the first n shards. In the present layout the total has to be that of all shards.
abbrev pub slots_of : Layout → ℕ → ℕ → List ℕ → ℕ
slots_of layout n cap ws = sum n (λ i. (shard_at layout cap i ws).slots.count)

abbrev pub total_wrong : Layout → ℕ → ℕ → List ℕ → Bool
total_wrong Old shards cap ws = false
total_wrong Present shards cap ws = not (eqb (total_of ws) (slots_of Present shards cap ws))
