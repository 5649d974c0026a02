-- How many modems a store has room for in so many words.
use Rattle.std.specs.Prelude.{ℕ, zero, suc, ◌+◌, Bool, false, cond, eqb, leb}
use Rattle.settings.specs.declared.Limit.TheVariants.{Closed}
use Rattle.settings.specs.declared.Settings.{Settings}
use Rattle.settings.specs.Settings.{most_keys, size_refusal}
use Rattle.settings.specs.Eviction.{capacity_of}
use Rattle.store.specs.Memory.{memory_words}

-- Settings for so many modems in so many shards. How many words they need depends on nothing else in them.
abbrev pub sized : ℕ → ℕ → Settings
sized keys shards = record { limit = Closed; eviction = capacity_of keys; shards = shards; classes = 0 }

-- Whether a store for so many modems is accepted, and needs no more words.
unfoldable pub fits : ℕ → ℕ → ℕ → Bool
fits keys words shards = cond (eqb (size_refusal (sized keys shards)) 0) (leb (memory_words (sized keys shards)) words) false

-- The modems are tried one after the other, up to the first that is one too many.
unfoldable pub room_from : ℕ → ℕ → ℕ → ℕ → ℕ
room_from zero keys words shards = keys
room_from (suc left) keys words shards = cond (fits (keys + 1) words shards) (room_from left (keys + 1) words shards) keys

abbrev pub room_for : ℕ → ℕ → ℕ
room_for words shards = room_from most_keys 0 words shards
