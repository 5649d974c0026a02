-- Settings of up to 4,096 keys keep the refusal, the shards and the cap that they had when there could be no more.
use Prim.Native.Nat.{ℕ, zero, suc, ◌≤◌, min, max}
use native.Mathlib.Nat.{max-eq_left, max-eq_right}
use native.Mathlib.Omega.{arith}
use mathlib.Core.Path.{◌≡◌, refl}
use borrow.Author.Tests.{lt-ltb, le-ltb}
use Rattle.arith.proofs.Cases.{by_le}
use Rattle.arith.proofs.DivisionLaws.{ceil_div_least}
use Rattle.settings.specs.declared.Settings.{Settings}
use Rattle.settings.specs.Before as Before
use Rattle.settings.specs.Powers.{exponent_from, exponent_for, next_power_of_two}
use Rattle.settings.specs.Settings.{most_keys_in_shard, most_shards, size_refusal, settings_refusal, least_shards, shard_count, shape_of}
use Rattle.settings.proofs.SettingsLaws.{neither_refuses}

-- No shards asked for count as 1.
none_counts_as_one : (asked : ℕ) → next_power_of_two (min (max asked 1) most_shards) ≡ next_power_of_two (min asked most_shards)
unfolding exponent_from exponent_for
none_counts_as_one zero = refl
none_counts_as_one (suc more) = let some : max (suc more) 1 ≡ suc more = max-eq_left (omega arith) in rw some

module _ (s : Settings) where
  -- One shard holds up to 16,384 keys, so no number of shards is raised for them.
  pub one_shard_holds_them : s.eviction.max_keys ≤ most_keys_in_shard → least_shards s ≡ 1
  one_shard_holds_them few = max-eq_right (ceil_div_least _ most_keys_in_shard 1 (omega arith) (omega (arith, few)))

  pub shards_as_before : s.eviction.max_keys ≤ most_keys_in_shard → shard_count s ≡ Before.shard_count s
  shards_as_before few = rw (one_shard_holds_them few) (none_counts_as_one s.shards)

  pub shape_as_before : s.eviction.max_keys ≤ most_keys_in_shard → shape_of s ≡ Before.shape_of s
  shape_as_before few = rw (shards_as_before few)

  -- With no more than 4,096 keys the same shards are refused.
  size_refused_as_before : s.eviction.max_keys ≤ 4096 → size_refusal s ≡ Before.size_refusal s
  unfolding size_refusal Before.size_refusal
  size_refused_as_before few = rw (le-ltb 65536 s.eviction.max_keys (omega (arith, few)), le-ltb 4096 _ few)

  -- An accepted size had no more than 4,096 keys.
  pub keys_accepted_before : Before.size_refusal s ≡ 0 → s.eviction.max_keys ≤ 4096
  unfolding Before.size_refusal
  keys_accepted_before accepted =
      by_le s.eviction.max_keys 4096 (λ few. few) (λ more. absurd (omega (arith, rw (lt-ltb _ _ more) at accepted)))

-- What settings come to, as it was before.
pub record AsBefore (s : Settings) : Type 0 where
  pub refusal : settings_refusal s ≡ Before.settings_refusal s
  pub shape : shape_of s ≡ Before.shape_of s

-- Of up to 4,096 keys: they are refused by the same number, and have the same shards and places, whether they are accepted or not.
pub up_to_4096_keys_as_before : (s : Settings) → s.eviction.max_keys ≤ 4096 → AsBefore s
up_to_4096_keys_as_before s few = record { refusal = rw (size_refused_as_before s few); shape = shape_as_before s (omega (arith, few)) }

-- So all settings that were accepted are accepted, and have the same shards and places.
pub accepted_before_is_as_before : (s : Settings) → Before.settings_refusal s ≡ 0 → AsBefore s
accepted_before_is_as_before s accepted = up_to_4096_keys_as_before s (keys_accepted_before s (neither_refuses _ _ accepted).1)
