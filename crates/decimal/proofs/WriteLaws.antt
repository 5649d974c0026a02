-- What is written of a number digit by digit, and how many digits it has.
use Prim.Native.Nat.{ℕ, zero, suc, max, ◌+◌, ◌*◌, ◌-◌, ◌/◌, ◌%◌, ◌^◌, ◌≤◌, ◌<◌}
use native.Mathlib.Nat.{le_refl, add-zero, pow-suc, pow-le-pow_right}
use native.Mathlib.Omega.{arith}
use mathlib.Core.List.{List, [], ◌∷◌, ◌++◌}
use mathlib.Core.Path.{◌≡◌, refl, ap, sym, ◌∙◌}
use lib.ListN.{length, set}
use lib.Seq.{sets, set_comm}
use Rattle.rows.specs.Outcome.{outcome}
use Rattle.arith.proofs.Cases.{by_le}
use Rattle.decimal.specs.Decimal.{digits_from, digits_of, written}
use borrow.Author.Tests.{lt-ltb, le-ltb}

-- A number of one digit, and one of more.
pub one_digit : (left n : ℕ) → n < 10 → digits_from (suc left) n ≡ (48 + n) ∷ []
unfolding digits_from
one_digit left n few = rw (lt-ltb n 10 few)

pub more_digits : (left n : ℕ) → 10 ≤ n → digits_from (suc left) n ≡ digits_from left (n / 10) ++ ((48 + n % 10) ∷ [])
unfolding digits_from
more_digits left n many = rw (le-ltb n 10 many)

length_snoc : (bs : List ℕ) (b : ℕ) → length (bs ++ (b ∷ [])) ≡ suc (length bs)
length_snoc [] b = refl
length_snoc (x ∷ bs) b = ap suc (length_snoc bs b)

-- There is a digit, and there are no more than are left.
pub some_digits : (left n : ℕ) → 1 ≤ left → 1 ≤ length (digits_from left n)
some_digits zero n room = absurd (omega arith)
some_digits (suc left) n room =
    by_le 10 n
    (λ many. rw (more_digits left n many, length_snoc (digits_from left (n / 10)) (48 + n % 10)) (omega arith))
    (λ few. rw (one_digit left n few) (omega arith))

pub few_digits : (left n : ℕ) → length (digits_from left n) ≤ left
unfolding digits_from
few_digits zero n = le_refl 0
few_digits (suc left) n =
    by_le 10 n
    (λ many. rw (more_digits left n many, length_snoc (digits_from left (n / 10)) (48 + n % 10)) (omega (arith, few_digits left (n / 10))))
    (λ few. rw (one_digit left n few) (omega arith))

-- The last k digits of a number, zeros in front too.
unfoldable pub last_digits : ℕ → ℕ → List ℕ
last_digits zero n = []
last_digits (suc k) n = last_digits k (n / 10) ++ ((48 + n % 10) ∷ [])

length_last_digits : (k n : ℕ) → length (last_digits k n) ≡ k
unfolding last_digits
length_last_digits zero n = refl
length_last_digits (suc k) n = length_snoc (last_digits k (n / 10)) (48 + n % 10) ∙ ap suc (length_last_digits k (n / 10))

-- A number's digits are its last digits, as many as there are.
pub digits_are_last : (left n : ℕ) → digits_from left n ≡ last_digits (length (digits_from left n)) n
unfolding digits_from last_digits
digits_are_last zero n = refl
digits_are_last (suc left) n =
    by_le 10 n
    (λ many. rw (more_digits left n many, length_snoc (digits_from left (n / 10)) (48 + n % 10), last_digits, ← digits_are_last left (n / 10)))
    (λ few. let same : n % 10 ≡ n = omega arith in rw (one_digit left n few, last_digits, same))

-- The last store of a run may come first.
set_sets : (l : List ℕ) (i j a : ℕ) (vs : List ℕ) → i + length vs ≤ j → set (sets l i vs) j a ≡ sets (set l j a) i vs
set_sets l i j a [] past = refl
set_sets l i j a (v ∷ vs) past =
    set_sets (set l i v) (suc i) j a vs (omega arith) ∙ ap (λ (r : List ℕ). sets r (suc i) vs) (set_comm l i j v a (omega arith))

sets_snoc : (l : List ℕ) (i : ℕ) (vs : List ℕ) (a : ℕ) → sets l i (vs ++ (a ∷ [])) ≡ set (sets l i vs) (i + length vs) a
sets_snoc l i [] a = rw add-zero
sets_snoc l i (v ∷ vs) a = let e : i + suc (length vs) ≡ suc i + length vs = omega arith in rw e (sets_snoc (set l i v) (suc i) vs a)

-- Storing the last digit and then the others stores them all.
pub last_digit_first : (l : List ℕ) (place i rest : ℕ) → place < i
    → sets (set l (i - 1) (48 + rest % 10)) place (last_digits (i - 1 - place) (rest / 10)) ≡ sets l place (last_digits (i - place) rest)
unfolding last_digits
last_digit_first l place i rest more =
    let k = i - 1 - place in
    let d = 48 + rest % 10 in
    let front = last_digits k (rest / 10) in
    let one_more : i - place ≡ suc (i - 1 - place) = omega arith in
    let there : place + length front ≡ i - 1 = omega (arith, length_last_digits k (rest / 10)) in
    let after : place + length front ≤ i - 1 = omega arith in
    rw (one_more, last_digits, sets_snoc l place front d, there, set_sets l place (i - 1) d front after)

-- At the start all digits are left to store.
pub all_to_store : (l : List ℕ) (place n w : ℕ) → w ≡ length (digits_of n) → sets l place (last_digits (place + w - place) n) ≡ sets l place (digits_of n)
all_to_store l place n w as_many =
    let e : place + w - place ≡ length (digits_of n) = omega arith in
    rw (e, ← digits_are_last 20 n)

-- At the end none is, and what the loop leaves is what is to be written.
pub all_is_written : (out₀ out : List ℕ) (place n w i rest : ℕ) → w ≡ length (digits_of n) → i ≤ place
    → sets out place (last_digits (i - place) rest) ≡ sets out₀ place (digits_of n) → outcome (place + w) out ≡ written place n out₀
unfolding last_digits
all_is_written out₀ out place n w i rest as_many none keeps =
    let over : i - place ≡ 0 = omega arith in
    let stored : out ≡ sets out₀ place (digits_of n) = rw over at keeps in
    rw (as_many, stored)

-- A tenth of a number fits one digit less.
pub tenth_fits : (left n : ℕ) → n < 10 ^ suc left → n / 10 < 10 ^ left
tenth_fits left n fits = omega (arith, pow-suc 10 left)

-- For a number that fits and is not 0, a digit is left.
pub some_left : (left n : ℕ) → n < 10 ^ left → 1 ≤ n → 1 ≤ left
some_left zero n fits some = absurd (omega arith)
some_left (suc left) n fits some = omega arith

-- A number from a power of ten on and below the next has one digit more than that power has zeros.
digits_by_power : (left n k : ℕ) → k < left → 10 ^ k ≤ n → n < 10 * 10 ^ k → length (digits_from left n) ≡ k + 1
digits_by_power zero n k room low high = absurd (omega arith)
digits_by_power (suc left) n zero room low high = rw (one_digit left n (omega arith))
digits_by_power (suc left) n (suc k) room low high =
    let power = pow-suc 10 k in
    let some : 1 ≤ 10 ^ k = pow-le-pow_right {n = 10} (omega arith) {i = 0} {j = k} (omega arith) in
    let front = digits_by_power left (n / 10) k (omega arith) (omega (arith, power)) (omega (arith, power)) in
    rw (more_digits left n (omega (arith, power)), length_snoc (digits_from left (n / 10)) (48 + n % 10), front) (omega arith)

-- So the digits of a number are counted, 0 as 1.
pub digits_counted : (n k : ℕ) → k < 20 → 10 ^ k ≤ max n 1 → max n 1 < 10 * 10 ^ k → k + 1 ≡ length (digits_of n)
digits_counted n k room low high =
    by_le 1 n
    (λ some. let same : max n 1 ≡ n = omega arith in sym (digits_by_power 20 n k room (rw same at low) (rw same at high)))
    (λ none.
    let one : max n 1 ≡ 1 = omega arith in
    let as_one = digits_by_power 20 1 k room (rw one at low) (rw one at high) in
    sym as_one ∙ rw (one_digit 19 1 (omega arith), one_digit 19 n (omega arith)))

-- A number of one digit is written as that digit.
pub one_digit_is_written : (out : List ℕ) (place n : ℕ) → n < 10 → outcome (place + 1) (set out place (48 + n)) ≡ written place n out
one_digit_is_written out place n few = rw (one_digit 19 n few)

-- What is written of a number of 64 bits is 1 to 20 digits.
pub digits_count : (n : ℕ) → (1 ≤ length (digits_of n)) × (length (digits_of n) ≤ 20)
digits_count n = (some_digits 20 n (omega arith), few_digits 20 n)
