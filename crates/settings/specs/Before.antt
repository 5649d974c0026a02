-- The sizes as they were when there could be 4,096 keys, and the shards asked for were not raised for the keys.
use Rattle.std.specs.Prelude.{ℕ, min, max, cond, ltb}
use Rattle.arith.specs.Arith.{ceil_div}
use Rattle.settings.specs.declared.Settings.{Settings}
use Rattle.settings.specs.declared.Shape.{Shape}
use Rattle.settings.specs.Powers.{next_power_of_two}
use Rattle.settings.specs.Settings.{first_refusal, limit_refusal}

-- More than 4,096 keys, or more than 64 shards, were refused as 4.
unfoldable pub size_refusal : Settings → ℕ
size_refusal s = cond (ltb 4096 s.eviction.max_keys) 4 (cond (ltb 64 s.shards) 4 0)

abbrev pub settings_refusal : Settings → ℕ
settings_refusal s = first_refusal (limit_refusal s.limit) (size_refusal s)

-- The shards were the number asked for, at most 64, up to the next power of two.
abbrev pub shard_count : Settings → ℕ
shard_count s = next_power_of_two (min s.shards 64)

-- Each held an equal share of the keys, rounded up, and at least 1.
abbrev pub cap_of : Settings → ℕ
cap_of s = max (ceil_div s.eviction.max_keys (shard_count s)) 1

abbrev pub shape_of : Settings → Shape
shape_of s = record { shards = shard_count s; cap = cap_of s; classes = s.classes }
