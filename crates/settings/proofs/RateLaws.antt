-- The refusals of a rate: which check gives which number, and what holds of a rate that none of them refuses.
use Prim.Native.Nat.{ℕ, ◌≤◌, ◌<◌}
use mathlib.Core.Path.{◌≡◌, sym, ap, ◌∙◌}
use mathlib.Core.Logic.{◌⊎◌, inl, inr}
use native.Mathlib.Nat.{min-le_right}
use native.Mathlib.Omega.{arith}
use borrow.Author.Tests.{lt-ltb, le-ltb}
use Rattle.arith.proofs.Cases.{by_le}
use Rattle.bucket.specs.Bucket.{Accepted}
use Rattle.settings.specs.declared.rate.Rate.{Rate}
use Rattle.settings.specs.Rate.{burst_of, config_of, most_tokens, longest_period, unless_within, rate_refusal}
use Rattle.settings.specs.Settings.{first_refusal}
use Rattle.settings.proofs.SettingsLaws.{first_refusal_stands, no_refusal_hands_on}

-- A value is outside its range where it is 0 or more than the most, and within it otherwise.
abbrev pub Outside : ℕ → ℕ → Type 0
Outside value most = (value < 1) ⊎ (most < value)

abbrev pub Within : ℕ → ℕ → Type 0
Within value most = (1 ≤ value) × (value ≤ most)

-- One check of a range.
module _ (value most refusal rest : ℕ) where
  -- For a value outside it gives its own refusal.
  pub outside_is_refused : Outside value most → unless_within value most refusal rest ≡ refusal
  unfolding unless_within
  outside_is_refused (inl none) = rw (lt-ltb _ _ none)
  outside_is_refused (inr more) = rw (le-ltb value 1 (omega arith), lt-ltb _ _ more)

  -- For a value within it gives what the checks after it say.
  pub within_is_passed : Within value most → unless_within value most refusal rest ≡ rest
  unfolding unless_within
  within_is_passed within = rw (le-ltb value 1 within.0, le-ltb most value within.1)

  -- Where it gives 0 and has a number of its own, the value is within, and the checks after it give 0 too.
  not_refused_is_within : unless_within value most refusal rest ≡ 0 → 0 < refusal → Within value most × (rest ≡ 0)
  not_refused_is_within passed numbered =
      let never : Outside value most → ⊥ = λ outside. omega (arith, sym (outside_is_refused outside) ∙ passed) in
      by_le 1 value
      (λ some. by_le value most (λ few. ((some, few), sym (within_is_passed (some, few)) ∙ passed)) (λ more. absurd (never (inr more))))
      (λ none. absurd (never (inl none)))

-- A check with others after it refuses as the check alone does, and else as they do.
check_and_rest : (value most refusal rest : ℕ) → 0 < refusal → unless_within value most refusal rest ≡ first_refusal (unless_within value most refusal 0) rest
check_and_rest value most refusal rest numbered =
    let refused : Outside value most → unless_within value most refusal rest ≡ first_refusal (unless_within value most refusal 0) rest = λ outside.
    outside_is_refused value most refusal rest outside
    ∙ sym (ap (λ n. first_refusal n rest) (outside_is_refused value most refusal 0 outside)
    ∙ first_refusal_stands refusal rest (λ none. omega (arith, none))) in
    by_le 1 value
    (λ some. by_le value most
    (λ few. within_is_passed value most refusal rest (some, few)
    ∙ sym (no_refusal_hands_on _ rest (within_is_passed value most refusal 0 (some, few))))
    (λ more. refused (inr more)))
    (λ none. refused (inl none))

-- The three checks of a rate, in turn.
pub checks_in_turn : (r : Rate) → rate_refusal r
    ≡ first_refusal (unless_within r.amount most_tokens 1 0)
    (first_refusal (unless_within r.period.0 longest_period 2 0) (unless_within (burst_of r) most_tokens 3 0))
unfolding rate_refusal
checks_in_turn r = check_and_rest _ _ 1 _ (omega arith) ∙ ap (first_refusal _) (check_and_rest _ _ 2 _ (omega arith))

-- The three checks in turn. Each law counts on the checks before its own being passed.
module _ (r : Rate) where
  pub outside_amount_is_refused_1 : Outside r.amount most_tokens → rate_refusal r ≡ 1
  outside_amount_is_refused_1 outside =
      let first = outside_is_refused _ most_tokens 1 0 outside in
      checks_in_turn r ∙ first_refusal_stands _ _ (λ none. omega (arith, first, none)) ∙ first

  module _ (amount : Within r.amount most_tokens) where
    amount_is_passed : rate_refusal r ≡ first_refusal (unless_within r.period.0 longest_period 2 0) (unless_within (burst_of r) most_tokens 3 0)
    amount_is_passed = checks_in_turn r ∙ no_refusal_hands_on _ _ (within_is_passed _ most_tokens 1 0 amount)

    pub outside_period_is_refused_2 : Outside r.period.0 longest_period → rate_refusal r ≡ 2
    outside_period_is_refused_2 outside =
        let second = outside_is_refused _ longest_period 2 0 outside in
        amount_is_passed ∙ first_refusal_stands _ _ (λ none. omega (arith, second, none)) ∙ second

    module _ (period : Within r.period.0 longest_period) where
      period_is_passed : rate_refusal r ≡ unless_within (burst_of r) most_tokens 3 0
      period_is_passed = amount_is_passed ∙ no_refusal_hands_on _ _ (within_is_passed _ longest_period 2 0 period)

      pub outside_burst_is_refused_3 : Outside (burst_of r) most_tokens → rate_refusal r ≡ 3
      outside_burst_is_refused_3 outside = period_is_passed ∙ outside_is_refused _ _ _ _ outside

      pub within_all_is_accepted : Within (burst_of r) most_tokens → rate_refusal r ≡ 0
      within_all_is_accepted burst = period_is_passed ∙ within_is_passed _ _ _ _ burst

-- A rate that is not refused makes a configuration that every function of the bucket takes.
pub accepted_rate : (r : Rate) → rate_refusal r ≡ 0 → Accepted (config_of r)
unfolding rate_refusal
accepted_rate r passed =
    let amount = not_refused_is_within _ _ _ _ passed (omega arith) in
    let period = not_refused_is_within _ _ _ _ amount.1 (omega arith) in
    let burst = not_refused_is_within _ _ _ _ period.1 (omega arith) in
    record {
      amount_least = amount.0.0;
      amount_most = amount.0.1;
      period_least = period.0.0;
      period_most = period.0.1;
      capacity_least = burst.0.0;
      capacity_most = burst.0.1;
      initial_most = min-le_right _ _;
    }
