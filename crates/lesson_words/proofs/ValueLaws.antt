-- Values of words, by the tests of the code.
use Rattle.std.proofs.Common.{Ok, Err}
use Prim.Native.Nat.{ℕ, ◌+◌, ◌≤◌, ◌<◌}
use native.Mathlib.Omega.{arith}
use mathlib.Core.Path.{◌≡◌, refl, sym, ◌∙◌}
use mathlib.Core.Bool.{true, false, true≢false}
use mathlib.Core.List.{List, [], ◌∷◌}
use lib.Dec.{eqb}
use lib.ListN.{length, take, drop}
use lib.Pointwise.{pointwise}
use Rattle.arith.proofs.Cases.{by_test}
use Rattle.decimal.specs.Decimal.{all_digits}
use Rattle.lesson_words.specs.declared.Fault.TheVariants as fault
use Rattle.lesson_words.specs.Steps.{◌>>=◌}
use Rattle.lesson_words.specs.Times.{most64, time_of}
use Rattle.lesson_words.specs.Values.{number_fault, later, moment_of}
use borrow.Author.Tests.{le-leb, lt-leb}

module _ (clock n : ℕ) where
  pub later_within : clock + n ≤ most64 → Ok (clock + n) ≡ later clock n
  later_within fits = rw (le-leb (clock + n) most64 fits)

  pub later_too_far : most64 < clock + n → Err fault.Far ≡ later clock n
  later_too_far far = rw (lt-leb (clock + n) most64 far)

module _ (most : ℕ) (word : List ℕ) where
  pub digits_are_large : all_digits word ≡ true → fault.Large most ≡ number_fault most word
  unfolding number_fault
  digits_are_large digits = rw digits

  pub others_are_no_number : all_digits word ≡ false → fault.Number ≡ number_fault most word
  unfolding number_fault
  others_are_no_number others = rw others

pub empty_moment : (clock : ℕ) (word : List ℕ) → length word ≡ 0 → time_of word ≡ moment_of clock word
unfolding moment_of
empty_moment clock [] none = refl
empty_moment clock (b ∷ bs) none = absurd (omega arith)

pub moment_after_the_clock : (clock : ℕ) (word : List ℕ) → pointwise eqb (take 1 word) (43 ∷ []) ≡ true
    → (time_of (drop 1 word) >>= later clock) ≡ moment_of clock word
unfolding moment_of
moment_after_the_clock clock [] plus = absurd (true≢false (sym plus))
moment_after_the_clock clock (b ∷ bs) plus = by_test (eqb b 43) (λ t. rw t) (λ t. absurd (true≢false (sym plus ∙ rw t)))

pub moment_by_itself : (clock : ℕ) (word : List ℕ) → pointwise eqb (take 1 word) (43 ∷ []) ≡ false → time_of word ≡ moment_of clock word
unfolding moment_of
moment_by_itself clock [] other = refl
moment_by_itself clock (b ∷ bs) other = by_test (eqb b 43) (λ t. absurd (true≢false (rw t at other))) (λ t. rw t)
