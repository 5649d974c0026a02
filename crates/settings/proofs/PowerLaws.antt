-- The step up to a power of two: the definition finds the least one, for every number, and a count of leading zeros leads to the same.
use Prim.Native.Nat.{ℕ, zero, suc, ◌+◌, ◌*◌, ◌-◌, ◌≤◌, ◌<◌, ◌^◌, zero-le}
use mathlib.Core.Path.{◌≡◌, refl}
use lib.Count.{count_leading_zeros, leading_top}
use lib.Pow.{pow_pos, pow_mono}
use native.Mathlib.Nat.{zero-add, add-zero, add-suc, suc-add, le_antisymm, lt_of_not-le, pow-suc}
use native.Mathlib.Omega.{arith}
use borrow.Author.Tests.{le-leb, lt-leb}
use Rattle.arith.proofs.Cases.{by_le}
use Rattle.settings.specs.Powers.{exponent_from, exponent_for, next_power_of_two}

-- A power of two whose exponent is at most so large.
pub record PowerOfTwo (most n : ℕ) : Type 0 where
  pub exponent : ℕ
  pub within : exponent ≤ most
  pub is : n ≡ 2 ^ exponent

-- The least exponent e whose power of two is not below n.
pub record LeastExponent (n e : ℕ) : Type 0 where
  pub serves : n ≤ 2 ^ e
  pub least : (k : ℕ) → n ≤ 2 ^ k → e ≤ k

-- A number has one least exponent.
least_exponents_agree : {n d e : ℕ} → LeastExponent n d → LeastExponent n e → d ≡ e
least_exponents_agree {n} {d} {e} a b = le_antisymm (a.least e b.serves) (b.least d a.serves)

-- The search stays at an exponent that serves.
search_stays : (left e n : ℕ) → n ≤ 2 ^ e → exponent_from left e n ≡ e
unfolding exponent_from
search_stays zero e n serves = refl
search_stays (suc left) e n serves = rw (le-leb _ _ serves)

-- It goes on from one that does not.
search_goes_on : (left e n : ℕ) → 2 ^ e < n → exponent_from (suc left) e n ≡ exponent_from left (suc e) n
unfolding exponent_from
search_goes_on left e n short = rw (lt-leb _ _ short)

-- So it finds the least exponent, where none below its start serves and the last one does.
search_finds_the_least : (left e n : ℕ) → ((k : ℕ) → n ≤ 2 ^ k → e ≤ k) → n ≤ 2 ^ (e + left) → LeastExponent n (exponent_from left e n)
unfolding exponent_from
search_finds_the_least zero e n none_below last = record { serves = rw (add-zero e) at last; least = none_below }
search_finds_the_least (suc left) e n none_below last =
    by_le n (2 ^ e)
    (λ serves. rw (search_stays (suc left) e n serves) (record { serves = serves; least = none_below }))
    (λ short.
    rw (search_goes_on left e n short)
    (search_finds_the_least left (suc e) n (λ k serves. beyond k serves short) (rw (add-suc e left, ← suc-add e left) at last)))
  where
    beyond : (k : ℕ) → n ≤ 2 ^ k → 2 ^ e < n → e < k
    beyond k serves short = lt_of_not-le (λ (back : k ≤ e). omega (arith, pow_mono back))

-- 2 ^ n is above n.
below_its_power : (n : ℕ) → n < 2 ^ n
below_its_power zero = omega arith
below_its_power (suc n) = omega (arith, below_its_power n, pow-suc 2 n)

-- What the definition gives is the least exponent.
pub exponent_is_least : (n : ℕ) → LeastExponent n (exponent_for n)
unfolding exponent_for
exponent_is_least n = search_finds_the_least n 0 n (λ k serves. zero-le) (rw (zero-add n) (omega (arith, below_its_power n)))

-- The step up is not below the number, and no power of two that is not below the number is smaller than the step up.
pub step_up_reaches : (n : ℕ) → n ≤ next_power_of_two n
step_up_reaches n = (exponent_is_least n).serves

pub step_up_is_least : (n k : ℕ) → n ≤ 2 ^ k → next_power_of_two n ≤ 2 ^ k
step_up_is_least n k serves = pow_mono ((exponent_is_least n).least k serves)

-- The length of n - 1 in bits is the least exponent.
length_is_least : (n m : ℕ) → n - 1 < 2 ^ m → 2 ^ m ≤ 2 * (n - 1) + 1 → LeastExponent n m
length_is_least n m below above =
    record {
      serves = omega arith;
      least = λ k serves. by_le m k (λ least. least) (λ more. absurd (omega (arith, pow-suc 2 k, pow_mono more, pow_pos k)));
    }

-- It is also the place of the highest bit of 2 (n - 1) + 1, counted from 0: the leading zeros of that number and the exponent of the step up make 63.
pub leading_zeros_give_the_exponent : (n : ℕ) → 2 * (n - 1) + 1 < 2 ^ 64 → count_leading_zeros 64 (2 * (n - 1) + 1) + exponent_for n ≡ 63
leading_zeros_give_the_exponent n fits =
    let top = leading_top 64 (2 * (n - 1) + 1) (omega arith) fits in
    let below : n - 1 < 2 ^ top.0 = omega (arith, top.3, pow-suc 2 top.0) in
    omega (arith, top.1, least_exponents_agree (exponent_is_least n) (length_is_least n top.0 below top.2))
