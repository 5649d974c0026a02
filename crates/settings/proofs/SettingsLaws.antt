-- What the settings come to, for the layers above: the refusals, and the bounds on shards, places per shard and the shard of a hash.
use Prim.Native.Nat.{ℕ, zero, suc, ◌+◌, ◌*◌, ◌-◌, ◌/◌, ◌%◌, ◌≤◌, ◌<◌, ◌^◌}
use mathlib.Core.Path.{◌≡◌, refl, sym, ◌∙◌}
use lib.Bits.{and_mask, mask_lt}
use lib.Pow.{pow_pos, pow_mono, shl_exact}
use native.Mathlib.Omega.{arith}
use native.Mathlib.Nat.{le-max_left, le-max_right, le-min, max-le, max-eq_left, min-le_right, le_trans, one-mul, zero-div, mod-lt, div-add-mod'}
use borrow.Author.Tests.{lt-ltb, le-ltb, eq-eqb, ne_eqb}
use Rattle.arith.specs.Arith.{ceil_div}
use Rattle.arith.proofs.Cases.{by_le, by_eq}
use Rattle.arith.proofs.DivisionLaws.{ceil_div_least, ceil_div_reaches, ceil_div_only}
use Rattle.settings.specs.declared.Settings.{Settings}
use Rattle.settings.specs.declared.Shape.{Shape}
use Rattle.settings.specs.Settings.{most_keys, most_shards, most_keys_in_shard, limit_refusal, size_refusal, first_refusal, settings_refusal}
use Rattle.settings.specs.Settings.{share, least_shards, asked_shards, shard_count, shard_exponent, cap_of, shape_of, shard_of, with_classes, most_counted}
use Rattle.settings.specs.Settings.{ShapeOfAccepted}
use Rattle.settings.specs.Settings.{idle_limit_millis}
use Rattle.settings.proofs.PowerLaws.{PowerOfTwo, exponent_is_least, step_up_reaches}

-- The check of the size, outcome by outcome.
module _ (s : Settings) where
  pub too_many_keys_is_refused_4 : most_keys < s.eviction.max_keys → size_refusal s ≡ 4
  unfolding size_refusal
  too_many_keys_is_refused_4 more = rw (lt-ltb _ _ more)

  pub too_many_shards_is_refused_4 : s.eviction.max_keys ≤ most_keys → most_shards < s.shards → size_refusal s ≡ 4
  unfolding size_refusal
  too_many_shards_is_refused_4 few more = rw (le-ltb _ _ few, lt-ltb _ _ more)

  pub small_enough_is_accepted : s.eviction.max_keys ≤ most_keys → s.shards ≤ most_shards → size_refusal s ≡ 0
  unfolding size_refusal
  small_enough_is_accepted few_keys few_shards = rw (le-ltb _ _ few_keys, le-ltb _ _ few_shards)

  -- An accepted size has no more keys than may be asked for.
  accepted_keys : size_refusal s ≡ 0 → s.eviction.max_keys ≤ most_keys
  accepted_keys accepted =
      by_le s.eviction.max_keys most_keys (λ few. few) (λ more. absurd (omega (arith, sym (too_many_keys_is_refused_4 more) ∙ accepted)))

-- Of two refusals the first stands where there is one.
pub first_refusal_stands : (first second : ℕ) → (first ≡ 0 → ⊥) → first_refusal first second ≡ first
unfolding first_refusal
first_refusal_stands first second refused = rw (ne_eqb _ _ refused)

-- Where it is none, the second decides.
pub no_refusal_hands_on : (first second : ℕ) → first ≡ 0 → first_refusal first second ≡ second
unfolding first_refusal
no_refusal_hands_on first second none = rw (eq-eqb _ _ none)

-- Where the outcome is none, both are none.
pub neither_refuses : (first second : ℕ) → first_refusal first second ≡ 0 → (first ≡ 0) × (second ≡ 0)
neither_refuses first second none =
    by_eq first 0
    (λ zero. (zero, sym (no_refusal_hands_on first second zero) ∙ none))
    (λ refused. absurd (refused (sym (first_refusal_stands first second refused) ∙ none)))

-- Settings are accepted where neither the rate nor the size is refused.
pub accepted_parts : (s : Settings) → settings_refusal s ≡ 0 → (limit_refusal s.limit ≡ 0) × (size_refusal s ≡ 0)
accepted_parts s accepted = neither_refuses (limit_refusal s.limit) (size_refusal s) accepted

-- The number of shards is a power of two, at least 1 and at most 64, whatever number is asked for.
module _ (s : Settings) where
  pub shard_exponent_most : shard_exponent s ≤ 6
  shard_exponent_most = (exponent_is_least _).least 6 (min-le_right _ _)

  pub shards_power : PowerOfTwo 6 (shard_count s)
  shards_power = record { exponent = shard_exponent s; within = shard_exponent_most; is = refl }

  pub shards_least : 1 ≤ shard_count s
  shards_least = rw shards_power.is (pow_pos shards_power.exponent)

  pub shards_most : shard_count s ≤ most_shards
  shards_most = rw shards_power.is (pow_mono shards_power.within)

  -- A 1 that is shifted by the exponent loses no bit.
  pub shards_by_shift : 1 * 2 ^ shard_exponent s % 2 ^ 64 ≡ shard_count s
  shards_by_shift = shl_exact 1 (shard_exponent s) 64 (omega arith) (omega (arith, shard_exponent_most)) ∙ one-mul (shard_count s)

-- The shard of a hash.
module _ (s : Settings) (hash : ℕ) where
  -- The mask of a power of two is a remainder: of the bits from the 40th on, by the number of shards.
  pub shard_is_remainder : shard_of s hash ≡ hash / 2 ^ 40 % shard_count s
  shard_is_remainder = rw (shards_power s).is (and_mask (hash / 2 ^ 40) (shards_power s).exponent)

  -- So it is one of the shards that there are.
  pub shard_below : shard_of s hash < shard_count s
  shard_below = rw (shards_power s).is (mask_lt (hash / 2 ^ 40) (shards_power s).exponent)

-- A share, which is rounded up, and at least 1, is the quotient of one less, rounded down, and 1 more.
pub share_of_one_less : (n d : ℕ) → 0 < d → (n - 1) / d + 1 ≡ share n d
share_of_one_less zero d some = rw (ceil_div_only 0 d 0 some (omega arith) (omega arith), zero-div d)
share_of_one_less (suc n) d some =
    let one_less = suc n - 1 in
    let whole = div-add-mod' one_less d in
    let is = ceil_div_only (suc n) d (one_less / d + 1) some (omega (arith, whole, mod-lt one_less some)) (omega (arith, whole)) in
    rw is (sym (max-eq_left (omega arith)))

-- The size of a shard.
module _ (s : Settings) where
  -- A shard holds at least one key.
  pub cap_least : 1 ≤ cap_of s
  cap_least = le-max_right _ _

  -- The fewest shards that hold the keys are no more than there may be, so there are as many.
  least_shards_few : size_refusal s ≡ 0 → least_shards s ≤ most_shards
  least_shards_few accepted = max-le (ceil_div_least _ most_keys_in_shard most_shards (omega arith) (omega (arith, accepted_keys s accepted))) (omega arith)

  least_shards_are_there : size_refusal s ≡ 0 → least_shards s ≤ shard_count s
  least_shards_are_there accepted =
      le_trans (le-min (le-max_right s.shards (least_shards s)) (least_shards_few accepted)) (step_up_reaches (asked_shards s))

  -- So no shard holds more keys than it is to hold.
  pub cap_most : size_refusal s ≡ 0 → cap_of s ≤ most_keys_in_shard
  cap_most accepted =
      let keys = s.eviction.max_keys in
      let reached = ceil_div_reaches keys most_keys_in_shard (omega arith) in
      let enough = le_trans (le-max_left (ceil_div keys most_keys_in_shard) 1) (least_shards_are_there accepted) in
      max-le
      (ceil_div_least keys (shard_count s) most_keys_in_shard (shards_least s) (omega (arith, reached, enough)))
      (omega arith)

-- The number of classes refuses no settings.
pub size_refused_with_any_classes : (n : ℕ) (s : Settings) → size_refusal (with_classes n s) ≡ size_refusal s
unfolding size_refusal
size_refused_with_any_classes n s = refl

pub refused_with_any_classes : (n : ℕ) (s : Settings) → settings_refusal (with_classes n s) ≡ settings_refusal s
refused_with_any_classes n s = rw (size_refused_with_any_classes n s)

-- The shape of settings of an accepted size.
pub shape_of_accepted : (s : Settings) {shape : Shape} → size_refusal s ≡ 0 → s.classes ≤ most_counted → shape ≡ shape_of s → ShapeOfAccepted shape
shape_of_accepted s accepted few is = record { settings = s; accepted = accepted; is = is; few_classes = few }

-- What holds of such a shape by itself.
module _ {shape : Shape} (a : ShapeOfAccepted shape) where
  pub accepted_shards_least : 1 ≤ shape.shards
  accepted_shards_least = rw a.is (shards_least a.settings)

  pub accepted_cap_most : shape.cap ≤ most_keys_in_shard
  accepted_cap_most = rw a.is (cap_most a.settings a.accepted)

  pub accepted_classes_few : shape.classes ≤ most_counted
  accepted_classes_few = rw a.is a.few_classes

-- The idle limit of no span at all is 1.
pub no_span_limit : idle_limit_millis 0 ≡ 1
unfolding ceil_div
no_span_limit = refl

-- That of any other span, as the code comes to it: the whole milliseconds of the span less one nanosecond, and 2 more.
pub some_span_limit : (span : ℕ) → 0 < span → (span - 1) / 1000000 + 2 ≡ idle_limit_millis span
unfolding ceil_div
some_span_limit span some = omega arith
