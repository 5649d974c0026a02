-- The next word of a line, byte by byte.
use Prim.Native.Nat.{ℕ, ◌+◌, ◌≤◌, ◌<◌}
use native.Mathlib.Omega.{arith}
use native.Mathlib.Numerals.{add-one}
use mathlib.Core.Path.{◌≡◌}
use mathlib.Core.Bool.{true, false}
use mathlib.Core.List.{List, [], ◌∷◌}
use lib.ListN.{length, drop, get_or, drop_of_length-le}
use lib.Seq.{drop-cons}
use Rattle.arith.proofs.Cases.{by_test}
use Rattle.lesson_words.specs.Words.{is_blank, blanks_ahead, word_size}

-- Blanks and words are within the bytes.
pub blanks_within : (bs : List ℕ) → blanks_ahead bs ≤ length bs
unfolding blanks_ahead
blanks_within [] = omega arith
blanks_within (b ∷ bs) = by_test (is_blank b) (λ t. rw t (omega (arith, blanks_within bs))) (λ t. rw t (omega arith))

pub word_within : (bs : List ℕ) → word_size bs ≤ length bs
unfolding word_size
word_within [] = omega arith
word_within (b ∷ bs) = by_test (is_blank b) (λ t. rw t (omega arith)) (λ t. rw t (omega (arith, word_within bs)))

-- From a place on: nothing at the end of the line, one more over each blank.
module _ (line : List ℕ) (at : ℕ) where
  pub no_blank_at_end : length line ≤ at → blanks_ahead (drop at line) ≡ 0
  unfolding blanks_ahead
  no_blank_at_end past = rw (drop_of_length-le line past)

  pub no_word_at_end : length line ≤ at → word_size (drop at line) ≡ 0
  unfolding word_size
  no_word_at_end past = rw (drop_of_length-le line past)

  module _ (inside : at < length line) where
    pub blank_goes_on : is_blank (get_or line at 0) ≡ true → at + blanks_ahead (drop at line) ≡ at + 1 + blanks_ahead (drop (at + 1) line)
    unfolding blanks_ahead
    blank_goes_on one = rw (drop-cons line at 0 inside, one, add-one) (omega arith)

    pub blanks_stop : is_blank (get_or line at 0) ≡ false → blanks_ahead (drop at line) ≡ 0
    unfolding blanks_ahead
    blanks_stop other = rw (drop-cons line at 0 inside, other)

    pub word_goes_on : is_blank (get_or line at 0) ≡ false → at + word_size (drop at line) ≡ at + 1 + word_size (drop (at + 1) line)
    unfolding word_size
    word_goes_on one = rw (drop-cons line at 0 inside, one, add-one) (omega arith)

    pub word_stops : is_blank (get_or line at 0) ≡ true → word_size (drop at line) ≡ 0
    unfolding word_size
    word_stops other = rw (drop-cons line at 0 inside, other)
