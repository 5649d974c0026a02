-- The remainder by a power of two, given by a mask. A number that has no bit in common with the number below it is a power of two: it is halved down to 1, and
-- each time both the mask and the remainder take one bit more of what is divided.
use Rattle.std.proofs.Common.{◌≡◌, ℕ, ◌+◌, ◌-◌, ◌*◌, ◌/◌, ◌%◌, ◌<◌, sym, ap, ◌∙◌, arith}
use native.Mathlib.Nat.{mod-one}
use lib.Arith.{bin_ind, mod-mul}
use lib.Bits.{bit_and, and_step, and_self, and_zero_r}
use Rattle.arith.proofs.Cases.{by_eq}

-- An odd number and the number below it have the same half. So they have a bit in common, unless the odd number is 1.
odd_power_is_one : (n : ℕ) → n % 2 ≡ 1 → bit_and n (n - 1) ≡ 0 → n ≡ 1
odd_power_is_one n odd apart =
    let half : (n - 1) / 2 ≡ n / 2 = omega arith in
    let common : bit_and (n / 2) ((n - 1) / 2) ≡ n / 2 = (rw half (and_self (n / 2))) in
    omega (arith, and_step n (n - 1))

-- Half of the number below an even number is the number below the even number's half.
half_of_below : (n : ℕ) → 0 < n → n % 2 ≡ 0 → (n - 1) / 2 ≡ n / 2 - 1
half_of_below n pos even = omega arith

-- The half of an even number has no bit in common with the number below it either.
half_is_power : (n : ℕ) → 0 < n → n % 2 ≡ 0 → bit_and n (n - 1) ≡ 0 → bit_and (n / 2) (n / 2 - 1) ≡ 0
half_is_power n pos even apart = rw (← half_of_below n pos even) (omega (arith, and_step n (n - 1)))

-- If a mask gives the remainder by the half of an even number, a mask gives the remainder by the even number.
mask_doubles : (n h : ℕ) → 0 < n → n % 2 ≡ 0 → bit_and (h / 2) (n / 2 - 1) ≡ h / 2 % (n / 2) → bit_and h (n - 1) ≡ h % n
mask_doubles n h pos even halved =
    let twice : n ≡ n / 2 * 2 = omega arith in
    let high : bit_and (h / 2) ((n - 1) / 2) ≡ h / 2 % (n / 2) = (rw (half_of_below n pos even) halved) in
    let digits : h % (n / 2 * 2) ≡ h / 2 % (n / 2) * 2 + h % 2 = mod-mul h (omega arith) (omega arith) in
    let masked : bit_and h (n - 1) ≡ h / 2 % (n / 2) * 2 + h % 2 = omega (arith, and_step h (n - 1)) in
    masked ∙ sym digits ∙ ap (λ (x : ℕ). h % x) (sym twice)

-- The number has no bit in common with the number below it: then a mask by the number below gives the remainder by the number.
pub mask_is_remainder : (n : ℕ) → 0 < n → bit_and n (n - 1) ≡ 0 → (h : ℕ) → bit_and h (n - 1) ≡ h % n
mask_is_remainder =
    bin_ind (λ (n : ℕ). 0 < n → bit_and n (n - 1) ≡ 0 → (h : ℕ) → bit_and h (n - 1) ≡ h % n)
    (λ pos apart h. absurd (omega arith))
    (λ n ih pos apart h.
    by_eq (n % 2) 0
    (λ even. mask_doubles n h pos even (ih (omega arith) (half_is_power n pos even apart) (h / 2)))
    (λ odd. let one : n ≡ 1 = odd_power_is_one n (omega arith) apart in rw one (and_zero_r h ∙ sym (mod-one h))))
