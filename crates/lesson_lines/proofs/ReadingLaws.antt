-- The words of a line, by the tests of the code.
use Rattle.std.proofs.Common.{Result, Ok, Err}
use Prim.Native.Nat.{ℕ, ◌-◌, ◌≤◌, ◌<◌}
use native.Mathlib.Omega.{arith}
use mathlib.Core.Path.{◌≡◌, refl}
use mathlib.Core.Bool.{false}
use mathlib.Core.List.{List}
use lib.Dec.{eqb, leb}
use lib.ListN.{length, drop, get_or, length-drop}
use Rattle.arith.proofs.Cases.{by_test, by_le}
use Rattle.rows.specs.Segments.{segment}
use Rattle.decimal.specs.Decimal.{number_of, all_digits, decimal_from}
use Rattle.lesson_words.specs.Words.{small}
use Rattle.lesson_words.specs.Values.{plain_of}
use Rattle.lesson_words.specs.declared.Kind.TheVariants as kind
use Rattle.lesson_words.specs.declared.Fault.{Fault}
use Rattle.lesson_words.specs.declared.Fault.TheVariants as fault
use Rattle.lesson_words.proofs.WordLaws.{no_blank_at_end, no_word_at_end, word_within}
use Rattle.lesson_lines.specs.Lesson.{word_from, word_end, Between, wrong_at, placed, taken_at, taken, letter_at, dash_at}
use borrow.Author.Tests.{le-leb, lt-leb, eq-eqb, ne_eqb}

module _ (line : List ℕ) (at : ℕ) where
  -- Past the end there is no word.
  pub no_word_from : length line < at → at ≡ word_from line at
  no_word_from past = omega (arith, no_blank_at_end line at (omega arith))

  pub no_word_end : length line < at → at ≡ word_end line at
  no_word_end past = omega (arith, no_word_at_end line at (omega arith))

  pub word_between : {end : ℕ} → end ≡ word_end line at → Between at end (length line)
  word_between is = (omega arith, λ some. omega (arith, word_within (drop at line), length-drop at line))

module _ (line : List ℕ) (from end : ℕ) where
  pub missing_letter : from ≡ end → wrong_at from fault.Missing ≡ letter_at line from end
  unfolding letter_at
  missing_letter none = rw (eq-eqb from end none)

  pub one_letter_lem : (from ≡ end → ⊥) → end - from ≡ 1 → Ok (record { value = small (get_or line from 0); from = from; end = end }) ≡ letter_at line from end
  unfolding letter_at
  one_letter_lem some one = rw (ne_eqb from end some, eq-eqb (end - from) 1 one)

  pub more_than_a_letter : (from ≡ end → ⊥) → (end - from ≡ 1 → ⊥) → wrong_at from fault.Letter ≡ letter_at line from end
  unfolding letter_at
  more_than_a_letter some more = rw (ne_eqb from end some, ne_eqb (end - from) 1 more)

  -- The same by the size of the word, which the code goes by.
  module _ (between : Between from end (length line)) where
    pub no_letter_by_size : end - from ≡ 0 → wrong_at from fault.Missing ≡ letter_at line from end
    no_letter_by_size none = missing_letter (omega (arith, between.0, none))

    pub one_letter_by_size : end - from ≡ 1 → Ok (record { value = small (get_or line from 0); from = from; end = end }) ≡ letter_at line from end
    one_letter_by_size one = one_letter_lem (λ e. omega (arith, e, one)) one

    pub more_by_size : (end - from ≡ 0 → ⊥) → (end - from ≡ 1 → ⊥) → wrong_at from fault.Letter ≡ letter_at line from end
    more_by_size some more = more_than_a_letter (λ e. some (omega (arith, e))) more

  pub dash_by_byte : end - from ≡ 1 → eqb (get_or line from 0) 45 ≡ dash_at line from end
  unfolding dash_at
  dash_by_byte one = rw (eq-eqb (end - from) 1 one)

  pub no_dash : (end - from ≡ 1 → ⊥) → false ≡ dash_at line from end
  unfolding dash_at
  no_dash more = rw (ne_eqb (end - from) 1 more)

-- A number that was taken is within its bound.
plain_within : (most n : ℕ) (w : List ℕ) → plain_of most w ≡ Ok n → n ≤ most
unfolding number_of
plain_within most n w =
    by_test (leb 1 (length w))
    (λ t. by_test (leb (length w) 20)
    (λ u. by_test (all_digits w)
    (λ v. by_le (decimal_from 0 w) most
    (λ within. rw (t, u, v, le-leb (decimal_from 0 w) most within) (λ is. let same : decimal_from 0 w ≡ n = cc in omega arith))
    (λ over. rw (t, u, v, lt-leb (decimal_from 0 w) most over) (λ is. absurd (cc))))
    (λ v. rw (t, u, v) (λ is. absurd (cc))))
    (λ u. rw (t, u) (λ is. absurd (cc))))
    (λ t. rw t (λ is. absurd (cc)))

placed_within : (most from end : ℕ) (v : Result ℕ Fault) {r : ℕ × ℕ} → ((n : ℕ) → v ≡ Ok n → n ≤ most) → placed from end v ≡ Ok r → r.0 ≤ most
placed_within most from end (Ok n) {r} bound is = let same : n ≡ r.0 = cc in omega (arith, bound n refl)
placed_within most from end (Err f) bound is = absurd (cc)

pub number_within : (most : ℕ) (line : List ℕ) (clock at : ℕ) {r : ℕ × ℕ} → taken line (kind.Number most) clock at ≡ Ok r → r.0 ≤ most
unfolding taken_at
number_within most line clock at =
    let from = word_from line at in
    let end = word_end line from in
    by_test (eqb from end)
    (λ t. rw t (λ is. absurd (cc)))
    (λ t. rw t (placed_within most from end (plain_of most (segment from (end - from) line)) (λ n. plain_within most n (segment from (end - from) line))))
