-- Worked settings, each computed from the definitions.
use Rattle.std.proofs.Common.{Some, None}
use Prim.Native.Nat.{ℕ, zero, suc}
use mathlib.Core.Path.{◌≡◌, refl}
use mathlib.Core.List.{List, [], ◌∷◌, ◌++◌}
use lib.ListN.{replicate}
use Rattle.arith.specs.Arith.{ceil_div}
use Rattle.settings.specs.declared.eviction.WhenFull.TheVariants.{RefuseNew}
use Rattle.settings.specs.declared.rate.Rate.{Rate}
use Rattle.settings.specs.declared.Limit.{Limit}
use Rattle.settings.specs.declared.Limit.TheVariants.{Closed, Open}
use Rattle.settings.specs.declared.Settings.{Settings}
use Rattle.settings.specs.declared.Shape.{Shape}
use Rattle.settings.specs.Eviction.{bounds}
use Rattle.settings.specs.Powers.{exponent_from, exponent_for}
use Rattle.settings.specs.Rate.{unless_within, rate_refusal}
use Rattle.settings.specs.Settings.{size_refusal, first_refusal, settings_refusal, shard_count, cap_of, shape_of, idle_limit}

-- Two tokens a second, up to four.
abbrev two_a_second : Rate
two_a_second = record { amount = 2; period = record { 0 = 1000000000 }; burst = Some 4; initial = None }

abbrev sized : Limit → ℕ → ℕ → Settings
sized limit keys shards = record { limit = limit; eviction = bounds keys None RefuseNew; shards = shards; classes = 0 }

abbrev idle_for : ℕ → Settings
idle_for ttl = record { limit = Open two_a_second; eviction = bounds 4 (Some (record { 0 = ttl })) RefuseNew; shards = 1; classes = 0 }

-- Shards and places per shard.
pub nothing_asked_for : (shard_count (sized Closed 0 0) ≡ 1) × (cap_of (sized Closed 0 0) ≡ 1)
unfolding exponent_from exponent_for ceil_div
nothing_asked_for = (refl, refl)

pub five_keys_three_shards : (shard_count (sized Closed 5 3) ≡ 4) × (cap_of (sized Closed 5 3) ≡ 2)
unfolding exponent_from exponent_for ceil_div
five_keys_three_shards = (refl, refl)

-- What a rule gives for so many numbers from n on.
abbrev listed : (ℕ → ℕ) → ℕ → ℕ → List ℕ
listed rule n zero = []
listed rule n (suc more) = rule n ∷ listed rule (suc n) more

-- The shards for each number that may be asked for, 0 to 64 in this order: what the table of seven counts gave.
pub shards_from_0_to_64 :
    listed (λ asked. shard_count (sized Closed 0 asked)) 0 65
    ≡ replicate 2 1 ++ replicate 1 2 ++ replicate 2 4 ++ replicate 4 8 ++ replicate 8 16 ++ replicate 16 32 ++ replicate 32 64
unfolding exponent_from exponent_for ceil_div
shards_from_0_to_64 = refl

-- Shards and places per shard of more keys than one shard is to hold, where 0, 1, 3 and 64 shards are asked for.
abbrev shapes_of : ℕ → List Shape
shapes_of keys = shape_of (sized Closed keys 0) ∷ shape_of (sized Closed keys 1) ∷ shape_of (sized Closed keys 3) ∷ shape_of (sized Closed keys 64) ∷ []

abbrev shaped : ℕ → ℕ → Shape
shaped shards cap = record { shards = shards; cap = cap; classes = 0 }

pub keys_4097 : shapes_of 4097 ≡ shaped 1 4097 ∷ shaped 1 4097 ∷ shaped 4 1025 ∷ shaped 64 65 ∷ []
unfolding exponent_from exponent_for ceil_div
keys_4097 = refl

-- The last number of keys for which 1 shard is left as it is, and one key more.
pub keys_16384 : shapes_of 16384 ≡ shaped 1 16384 ∷ shaped 1 16384 ∷ shaped 4 4096 ∷ shaped 64 256 ∷ []
unfolding exponent_from exponent_for ceil_div
keys_16384 = refl

pub keys_16385 : shapes_of 16385 ≡ shaped 2 8193 ∷ shaped 2 8193 ∷ shaped 4 4097 ∷ shaped 64 257 ∷ []
unfolding exponent_from exponent_for ceil_div
keys_16385 = refl

-- 3 shards for the keys, and 4 as the power of two.
pub keys_32769 : shapes_of 32769 ≡ shaped 4 8193 ∷ shaped 4 8193 ∷ shaped 4 8193 ∷ shaped 64 513 ∷ []
unfolding exponent_from exponent_for ceil_div
keys_32769 = refl

pub keys_65536 : shapes_of 65536 ≡ shaped 4 16384 ∷ shaped 4 16384 ∷ shaped 4 16384 ∷ shaped 64 1024 ∷ []
unfolding exponent_from exponent_for ceil_div
keys_65536 = refl

-- The idle limit: the time to be full where the idle time is shorter, the idle time where it is longer.
pub idle_shorter_than_full : idle_limit (idle_for 1) ≡ Some (record { 0 = 2001 })
unfolding ceil_div
idle_shorter_than_full = refl

pub idle_longer_than_full : idle_limit (idle_for 2000000001) ≡ Some (record { 0 = 2002 })
unfolding ceil_div
idle_longer_than_full = refl

-- The largest sizes are accepted, and one more is refused.
pub most_keys_lem : (settings_refusal (sized (Open two_a_second) 65536 1) ≡ 0) × (settings_refusal (sized (Open two_a_second) 65537 1) ≡ 4)
unfolding first_refusal size_refusal rate_refusal unless_within
most_keys_lem = (refl, refl)

pub most_shards_lem : (settings_refusal (sized (Open two_a_second) 1 64) ≡ 0) × (settings_refusal (sized (Open two_a_second) 1 65) ≡ 4)
unfolding first_refusal size_refusal rate_refusal unless_within
most_shards_lem = (refl, refl)

-- It is the number asked for that is refused, also where the keys need fewer shards.
pub asked_shards_refused : settings_refusal (sized (Open two_a_second) 65536 65) ≡ 4
unfolding first_refusal size_refusal rate_refusal unless_within
asked_shards_refused = refl

-- A closed limiter has no amount, period or burst that could be refused.
pub closed_is_accepted : settings_refusal (sized Closed 4 1) ≡ 0
unfolding first_refusal size_refusal
closed_is_accepted = refl
