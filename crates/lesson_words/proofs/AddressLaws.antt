-- Addresses, byte by byte.
use Rattle.std.proofs.Common.{Option, Some, None}
use Rattle.std.specs.Char.{is_ascii_digit, is_ascii_hexdigit, digit_value}
use Rattle.std.specs.Option.{SomeIff, unwrap_or}
use Rattle.std.specs.List.{list_all}
use Rattle.std.proofs.lemmas.Bool.Decides.{nat_tests}
use native.Mathlib.Omega.{arith}
use Prim.Native.Nat.{ℕ, ◌+◌, ◌-◌, ◌≤◌, ◌<◌}
use native.Mathlib.Numerals.{add-one}
use mathlib.Core.Path.{◌≡◌, refl, sym, ◌∙◌}
use mathlib.Core.Bool.{true, false, true≢false}
use mathlib.Core.List.{List, [], ◌∷◌}
use lib.Dec.{leb}
use lib.ListN.{length, drop, get_or, drop_of_length-le}
use lib.Seq.{drop-cons}
use Rattle.arith.proofs.Cases.{by_test}
use Rattle.decimal.specs.Decimal.{is_digit, all_digits}
use Rattle.lesson_words.specs.Words.{small}
use Rattle.lesson_words.specs.Addresses.{is_hex, hex_of, fits_at, all_fit, six_bytes, address_of}
use borrow.Author.Tests.{leb-true, eq-eqb, ne_eqb}

-- A hexadecimal digit is a digit or a letter up to `f`.
pub digit_range : (b : ℕ) → is_digit b ≡ true → (48 ≤ b) × (b ≤ 57)
unfolding is_digit
digit_range b one =
    by_test (leb 48 b)
    (λ t. (leb-true 48 b t, leb-true b 57 (rw t at one)))
    (λ t. absurd (true≢false (sym one ∙ rw t)))

pub letter_range : (b : ℕ) → is_hex b ≡ true → is_digit b ≡ false → (97 ≤ small b) × (small b ≤ 102)
unfolding is_hex
letter_range b hex other =
    by_test (leb 97 (small b))
    (λ t. (leb-true 97 (small b) t, leb-true (small b) 102 (rw (other, t) at hex)))
    (λ t. absurd (true≢false (sym hex ∙ rw (other, t))))

module _ (b : ℕ) where
  pub hex_of_another : is_hex b ≡ false → 0 ≡ hex_of b
  unfolding hex_of
  hex_of_another other = rw other

  pub hex_of_digit : is_hex b ≡ true → is_digit b ≡ true → b - 48 ≡ hex_of b
  unfolding hex_of
  hex_of_digit hex digit = rw (hex, digit)

  pub hex_of_letter : is_hex b ≡ true → is_digit b ≡ false → small b - 87 ≡ hex_of b
  unfolding hex_of
  hex_of_letter hex other = rw (hex, other)

-- The digits of std are those of the definitions.
pub digit_is : (b : ℕ) → is_ascii_digit b ≡ is_digit b
unfolding is_digit
digit_is b = by_test (leb 48 b) (λ t. rw t) (λ t. rw t)

pub hexdigit_is : (b : ℕ) → is_ascii_hexdigit b ≡ is_hex b
unfolding is_hex is_digit small
hexdigit_is b = grind (arith, nat_tests)

-- The value of a hexadecimal digit.
pub hex_is_value : (b : ℕ) → digit_value b < 16 → digit_value b ≡ hex_of b
unfolding hex_of is_hex is_digit small
hex_is_value b = grind (arith, nat_tests)

pub no_hex_value : (b : ℕ) → (digit_value b < 16 → ⊥) → 0 ≡ hex_of b
unfolding hex_of is_hex is_digit small
no_hex_value b = grind (arith, nat_tests)

pub hex_read : (b : ℕ) (o : Option ℕ) → SomeIff o (digit_value b < 16) (digit_value b) → (unwrap_or o 0 ≡ hex_of b) × (unwrap_or o 0 < 16)
hex_read b (Some x) is = (is.1 ∙ hex_is_value b is.0, omega (arith, is.0, is.1))
hex_read b None is = (no_hex_value b is, omega arith)

-- All bytes fit if the first does and the others do.
module _ (word : List ℕ) (i : ℕ) where
  pub none_left : length word ≤ i → all_fit i (drop i word) ≡ true
  unfolding all_fit
  none_left past = rw (drop_of_length-le word past)

  module _ (inside : i < length word) where
    pub fit_goes_on : fits_at i (get_or word i 0) ≡ true → all_fit (i + 1) (drop (i + 1) word) ≡ all_fit i (drop i word)
    unfolding all_fit
    fit_goes_on one = rw (drop-cons word i 0 inside, one, add-one)

    pub misfit_ends : fits_at i (get_or word i 0) ≡ false → false ≡ all_fit i (drop i word)
    unfolding all_fit
    misfit_ends other = rw (drop-cons word i 0 inside, other)

-- All digits, as the test of each.
pub digits_are : (w : List ℕ) → list_all is_ascii_digit w ≡ all_digits w
unfolding all_digits
digits_are [] = refl
digits_are (b ∷ bs) = rw digit_is (by_test (is_digit b) (λ t. rw t (digits_are bs)) (λ t. rw t))

-- An address, by the tests of the code.
module _ (word : List ℕ) where
  pub other_length : (length word ≡ 17 → ⊥) → None ≡ address_of word
  unfolding address_of
  other_length other = rw (ne_eqb (length word) 17 other)

  pub is_address : length word ≡ 17 → all_fit 0 word ≡ true → Some (six_bytes word) ≡ address_of word
  unfolding address_of
  is_address long fit = rw (eq-eqb (length word) 17 long, fit)

  pub is_no_address : length word ≡ 17 → all_fit 0 word ≡ false → None ≡ address_of word
  unfolding address_of
  is_no_address long other = rw (eq-eqb (length word) 17 long, other)
