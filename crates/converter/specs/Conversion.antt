-- A conversion: the refusals in their order, and the words that it leaves in the target. `forth` is from document 01's layout to the present one, `back` the
-- other way. A class table is read as empty, whatever number of classes the settings have.
use Rattle.std.specs.Prelude.{ℕ, zero, suc, Bool, cond, List, [], ◌∷◌, ◌++◌, eqb, ltb}
use Rattle.rows.specs.Outcome.{Outcome, outcome}
use Rattle.settings.specs.declared.Settings.{Settings}
use Rattle.settings.specs.Settings.{first_refusal, settings_refusal, size_refusal, shard_count, cap_of}
use Rattle.shard_map.specs.Model.{Shard}
use Rattle.store.specs.Refusals.{memory_refusal}
use Rattle.rules.specs.declared.Reply.{Reply}
use Rattle.rules.specs.declared.Reply.TheVariants.{Done}
use Rattle.rules.specs.Rules.{unless_refused}
use Rattle.converter_shards.specs.Checks.{any_below, shard_twins}
use Rattle.converter.specs.declared.Layout.{Layout}
use Rattle.converter.specs.declared.Layout.TheVariants.{Old, Present}
use Rattle.converter.specs.Layouts.{other, start_of, shard_at, moved, damaged, past_used, slots_of, total_wrong}

-- Is a shard refused by a number: 5 for damage, 18 for two slots of one hash and key or two debts of one hash, 19 for a word past a count that is not 0?
-- Of no other number is it asked.
unfoldable pub refused_by : Layout → ℕ → ℕ → Shard → Bool
refused_by layout number cap s = cond (eqb number 5) (damaged layout cap s) (cond (eqb number 18) (shard_twins s) (past_used layout s))

-- Is any shard refused by it?
abbrev pub any_refused_by : Layout → ℕ → ℕ → ℕ → List ℕ → Bool
any_refused_by layout number shards cap ws = any_below shards (λ i. refused_by layout number cap (shard_at layout cap i ws))

-- The number by which the words of the source are refused, 0 if they are not: 5 in any shard, or for the total, before 18 in any, and that before 19 in any.
unfoldable pub source_refusal : Layout → ℕ → ℕ → List ℕ → ℕ
source_refusal layout shards cap ws =
    cond (any_refused_by layout 5 shards cap ws) 5
    (cond (total_wrong layout shards cap ws) 5
    (cond (any_refused_by layout 18 shards cap ws) 18
    (cond (any_refused_by layout 19 shards cap ws) 19 0)))

-- The most keys that a store of document 01's layout can have. More are refused as 4, as settings of a wrong size are.
abbrev pub most_keys_moved : ℕ
most_keys_moved = 4096

unfoldable pub keys_refusal : Settings → ℕ
keys_refusal s = cond (ltb most_keys_moved s.eviction.max_keys) 4 0

-- How many words a store of these settings has.
abbrev pub words_for : Layout → Settings → ℕ
words_for layout s = start_of layout (cap_of s) (shard_count s)

-- How many words to lend for document 01's layout, 0 where it has no store of this size.
unfoldable pub old_words : Settings → ℕ
old_words s = cond (eqb (size_refusal s) 0) (cond (ltb most_keys_moved s.eviction.max_keys) 0 (words_for Old s)) 0

-- 5 where the source or the target has not its length. Of the target nothing else is looked at.
abbrev pub lengths_refusal : Layout → Settings → List ℕ → List ℕ → ℕ
lengths_refusal from s source target = first_refusal (memory_refusal (words_for from s) source) (memory_refusal (words_for (other from) s) target)

-- The number by which a conversion is refused: the settings, the lengths, the words of the source.
abbrev pub refusal_of : Layout → Settings → List ℕ → List ℕ → ℕ
refusal_of from s source target =
    first_refusal (first_refusal (settings_refusal s) (keys_refusal s))
    (first_refusal (lengths_refusal from s source target) (source_refusal from (shard_count s) (cap_of s) source))

-- The words of the first n shards in the other layout, one shard after the other.
unfoldable pub moved_up_to : Layout → ℕ → ℕ → List ℕ → List ℕ
moved_up_to from zero cap ws = []
moved_up_to from (suc n) cap ws = moved_up_to from n cap ws ++ moved from cap (shard_at from cap n ws)

-- All words of the target: going forth the total comes first.
abbrev pub moved_words : Layout → ℕ → ℕ → List ℕ → List ℕ
moved_words Old shards cap ws = slots_of Old shards cap ws ∷ moved_up_to Old shards cap ws
moved_words Present shards cap ws = moved_up_to Present shards cap ws

-- The conversion. A refusal leaves the target as it is.
abbrev pub converted : Layout → Settings → List ℕ → List ℕ → Outcome Reply (List ℕ)
converted from s source target = unless_refused (refusal_of from s source target) target (outcome Done (moved_words from (shard_count s) (cap_of s) source))

abbrev pub forth : Settings → List ℕ → List ℕ → Outcome Reply (List ℕ)
forth s source target = converted Old s source target

abbrev pub back : Settings → List ℕ → List ℕ → Outcome Reply (List ℕ)
back s source target = converted Present s source target
