-- The settings of a whole store: refusals, shards, places per shard, the number of classes, and the idle limit.
use Rattle.std.specs.Prelude.{ℕ, ◌+◌, ◌-◌, ◌/◌, ◌≤◌, ◌^◌, min, max, ◌≡◌, cond, ltb, eqb, Option, Some, None}
use Rattle.std.specs.Int.Bits.{bit_and}
use Rattle.arith.specs.Arith.{ceil_div}
use Rattle.units.specs.Units.{nanos_per_milli}
use Rattle.units.specs.declared.Nanos.{Nanos}
use Rattle.units.specs.declared.Millis.{Millis}
use Rattle.settings.specs.declared.Limit.{Limit}
use Rattle.settings.specs.declared.Limit.TheVariants.{Closed, Open}
use Rattle.settings.specs.declared.Settings.{Settings}
use Rattle.settings.specs.declared.Shape.{Shape}
use Rattle.settings.specs.Powers.{exponent_for, next_power_of_two}
use Rattle.settings.specs.Rate.{rate_refusal, config_of, time_to_full}

-- The most keys and shards that may be asked for, and the most keys that one shard is to hold.
abbrev pub most_keys : ℕ
most_keys = 65536

abbrev pub most_shards : ℕ
most_shards = 64

abbrev pub most_keys_in_shard : ℕ
most_keys_in_shard = 16384

-- A closed limiter has no rate to refuse.
abbrev pub limit_refusal : Limit → ℕ
limit_refusal Closed = 0
limit_refusal (Open rate) = rate_refusal rate

-- Too many keys, or too many shards, is refused as 4. The shards are those asked for, not yet raised.
unfoldable pub size_refusal : Settings → ℕ
size_refusal s = cond (ltb most_keys s.eviction.max_keys) 4 (cond (ltb most_shards s.shards) 4 0)

-- The first refusal of the two, 0 if there is none.
unfoldable pub first_refusal : ℕ → ℕ → ℕ
first_refusal first second = cond (eqb first 0) second first

-- The number by which settings are refused: 1 to 3 for the rate, else 4 for the size; 0 if they are accepted.
abbrev pub settings_refusal : Settings → ℕ
settings_refusal s = first_refusal (limit_refusal s.limit) (size_refusal s)

-- A quotient rounded up, and at least 1.
abbrev pub share : ℕ → ℕ → ℕ
share n d = max (ceil_div n d) 1

-- The fewest shards that hold the keys with at most that many in each, and at least 1.
abbrev pub least_shards : Settings → ℕ
least_shards s = share s.eviction.max_keys most_keys_in_shard

-- The number of shards asked for, raised to the fewest that hold the keys, so that 0 counts as 1, and cut to 64. The cut matters only to settings
-- that are refused.
abbrev pub asked_shards : Settings → ℕ
asked_shards s = min (max s.shards (least_shards s)) most_shards

-- The shards: that number, raised to the next power of two.
abbrev pub shard_count : Settings → ℕ
shard_count s = next_power_of_two (asked_shards s)

-- The exponent of that power of two.
abbrev pub shard_exponent : Settings → ℕ
shard_exponent s = exponent_for (asked_shards s)

-- The keys that a shard holds: an equal share of `max_keys`, rounded up, and at least 1.
abbrev pub cap_of : Settings → ℕ
cap_of s = share s.eviction.max_keys (shard_count s)

-- The shards, the keys that each holds, and the classes.
abbrev pub shape_of : Settings → Shape
shape_of s = record { shards = shard_count s; cap = cap_of s; classes = s.classes }

-- The same settings, and the same shards, with another number of classes. A call that is given a class table takes the number from the table.
abbrev pub with_classes : ℕ → Settings → Settings
with_classes n s = record { limit = s.limit; eviction = s.eviction; shards = s.shards; classes = n }

abbrev pub shape_with : ℕ → Shape → Shape
shape_with n shape = record { shards = shape.shards; cap = shape.cap; classes = n }

-- The shard of a hash: as many of its bits, from bit 40 on (counted from 0), as the shard count needs.
abbrev pub index_in : Shape → ℕ → ℕ
index_in shape hash = bit_and (hash / 2 ^ 40) (shape.shards - 1)

abbrev pub shard_of : Settings → ℕ → ℕ
shard_of s hash = index_in (shape_of s) hash

-- The most classes whose words are counted. No number of 32 bits is more, nor is the number of classes that a lent table has.
abbrev pub most_counted : ℕ
most_counted = 2 ^ 62

-- A shape that settings of an accepted size have. So its numbers are small.
pub record ShapeOfAccepted (shape : Shape) : Type 0 where
  pub settings : Settings
  pub accepted : size_refusal settings ≡ 0
  pub is : shape ≡ shape_of settings
  pub few_classes : settings.classes ≤ most_counted

-- The least idle time that counts: how long an empty bucket takes to be full. A closed limiter has no bucket.
abbrev pub least_idle : Limit → ℕ
least_idle Closed = 0
least_idle (Open rate) = time_to_full (config_of rate)

-- A span as an idle limit: its milliseconds, rounded up, and 1 more, since the two stamps of an idle span are each rounded down.
abbrev pub idle_limit_millis : ℕ → ℕ
idle_limit_millis span = ceil_div span nanos_per_milli + 1

-- The idle limit for an idle time and the least that counts.
abbrev pub idle_limit_for : Nanos → ℕ → Millis
idle_limit_for ttl least = record { 0 = idle_limit_millis (max ttl.0 least) }

-- There is none where no idle time is set.
abbrev pub idle_limit_of : Option Nanos → ℕ → Option Millis
idle_limit_of None least = None
idle_limit_of (Some ttl) least = Some (idle_limit_for ttl least)

-- The idle limit of settings.
abbrev pub idle_limit : Settings → Option Millis
idle_limit s = idle_limit_of s.eviction.idle_ttl (least_idle s.limit)
