-- A product of 64 bits by 32, made of the products of the halves.
use Prim.Native.Nat.{ℕ, ◌+◌, ◌*◌, ◌-◌, ◌/◌, ◌%◌, ◌≤◌, ◌<◌, ◌^◌}
use mathlib.Core.Path.{◌≡◌, ap, sym}
use native.Mathlib.Nat.{lt_of_le_of_lt, mul-le-mul_left, le_of_lt, mul-lt-mul_of_pos_right}
use native.Mathlib.Omega.{arith}
use Rattle.arith.specs.Arith.{saturated}

pub half_product_fits : {a b : ℕ} → a < 2 ^ 32 → b < 2 ^ 32 → a * b < 2 ^ 64
half_product_fits {a} {b} ha hb = lt_of_le_of_lt (mul-le-mul_left a (le_of_lt hb)) (mul-lt-mul_of_pos_right ha (omega arith))

-- So such a product is not held down.
pub half_product_saturated : {a b : ℕ} → a < 2 ^ 32 → b < 2 ^ 32 → a * b ≡ saturated (a * b)
half_product_saturated ha hb = omega (arith, half_product_fits ha hb)

product_by_halves : (a b : ℕ) → a * b ≡ a / 2 ^ 32 * b * 2 ^ 32 + a % 2 ^ 32 * b
product_by_halves a b =
    let e : a ≡ a / 2 ^ 32 * 2 ^ 32 + a % 2 ^ 32 = omega arith in
    omega (arith, ap (λ (n : ℕ). n * b) e)

pub product_too_wide : (a b : ℕ) → 2 ^ 32 ≤ a / 2 ^ 32 * b → 2 ^ 64 - 1 ≡ saturated (a * b)
product_too_wide a b h = omega (arith, product_by_halves a b)

pub product_saturated : (a b : ℕ) → saturated (a / 2 ^ 32 * b * 2 ^ 32 + a % 2 ^ 32 * b) ≡ saturated (a * b)
product_saturated a b = ap saturated (sym (product_by_halves a b))
