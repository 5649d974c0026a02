-- What the flags of a settings struct say, off and on, how an outcome of the rules is told, and the words to lend.
use Rattle.std.proofs.Common.{Some, None}
use Prim.Native.Nat.{ℕ, ◌≤◌, ◌<◌}
use mathlib.Core.Path.{◌≡◌}
use borrow.Author.Tests.{lt-ltb, le-ltb, eq-eqb, ne_eqb}
use Rattle.units.specs.Units.{nanos_of}
use Rattle.settings.specs.declared.Limit.TheVariants.{Closed, Open}
use Rattle.settings.specs.declared.Settings.{Settings}
use Rattle.settings.specs.Settings.{size_refusal}
use Rattle.classes.specs.Classes.{most_classes}
use Rattle.limiter.specs.declared.LimiterSettings.{LimiterSettings}
use Rattle.limiter.specs.Exported.{tokens_of, idle_of, rate_of, limit_of, words_to_lend}
use Rattle.store.specs.Memory.{memory_words}

module _ (flag n : ℕ) where
  pub tokens_unset : flag ≡ 0 → None ≡ tokens_of flag n
  unfolding tokens_of
  tokens_unset off = rw (eq-eqb _ _ off)

  pub tokens_set : (flag ≡ 0 → ⊥) → Some n ≡ tokens_of flag n
  unfolding tokens_of
  tokens_set on = rw (ne_eqb _ _ on)

  pub idle_unset : flag ≡ 0 → None ≡ idle_of flag n
  unfolding idle_of
  idle_unset off = rw (eq-eqb _ _ off)

  pub idle_set : (flag ≡ 0 → ⊥) → Some (nanos_of n) ≡ idle_of flag n
  unfolding idle_of
  idle_set on = rw (ne_eqb _ _ on)

module _ (s : LimiterSettings) where
  pub has_rate : s.closed ≡ 0 → Open (rate_of s) ≡ limit_of s
  unfolding limit_of
  has_rate off = rw (eq-eqb _ _ off)

  pub has_no_rate : (s.closed ≡ 0 → ⊥) → Closed ≡ limit_of s
  unfolding limit_of
  has_no_rate on = rw (ne_eqb _ _ on)

-- The words to lend where the sizes are refused, where there are too many classes, and where neither is so.
module _ (s : Settings) where
  pub refused_sizes_have_no_words : (size_refusal s ≡ 0 → ⊥) → 0 ≡ words_to_lend s
  unfolding words_to_lend
  refused_sizes_have_no_words refused = rw (ne_eqb _ _ refused)

  pub too_many_classes_have_no_words : size_refusal s ≡ 0 → most_classes < s.classes → 0 ≡ words_to_lend s
  unfolding words_to_lend
  too_many_classes_have_no_words accepted more = rw (eq-eqb _ _ accepted, lt-ltb _ _ more)

  pub accepted_sizes_have_the_stores_words : size_refusal s ≡ 0 → s.classes ≤ most_classes → memory_words s ≡ words_to_lend s
  unfolding words_to_lend
  accepted_sizes_have_the_stores_words accepted few = rw (eq-eqb _ _ accepted, le-ltb _ _ few)
