-- Division rounded up, for every divisor: what bounds it, what it is, and how it splits into a quotient and a rest.
use Prim.Native.Nat.{ℕ, suc, ◌+◌, ◌*◌, ◌-◌, ◌/◌, ◌%◌, ◌≤◌, ◌<◌, min}
use mathlib.Core.Path.{◌≡◌, sym}
use native.Mathlib.Nat.{mod-lt, div-add-mod', le_of_suc-le-suc, lt_of_mul-lt-mul_right, mul-le-mul_left}
use native.Mathlib.Omega.{arith}
use Rattle.std.proofs.lemmas.Grind.{div_ceil_times}
use Rattle.arith.specs.Arith.{ceil_div}
use Rattle.arith.proofs.Cases.{by_le}

-- It is the least multiple of the divisor that reaches a: not below a, and less than one divisor above it.
pub ceil_div_reaches : (a b : ℕ) → 0 < b → a ≤ ceil_div a b * b
unfolding ceil_div
ceil_div_reaches a b h = omega (arith, div-add-mod' (a + (b - 1)) b, mod-lt (a + (b - 1)) h)

pub ceil_div_within : (a b : ℕ) → 0 < b → ceil_div a b * b < a + b
unfolding ceil_div
ceil_div_within a b h = omega (arith, div-add-mod' (a + (b - 1)) b)

pub ceil_div_least : (a b c : ℕ) → 0 < b → a ≤ c * b → ceil_div a b ≤ c
ceil_div_least a b c h enough = le_of_suc-le-suc (lt_of_mul-lt-mul_right b {m = ceil_div a b} {n = suc c} (omega (arith, ceil_div_within a b h)))

-- The quotient of the smaller of two numbers is the smaller of their quotients.
pub ceil_div_mono : (a b c : ℕ) → 0 < c → a ≤ b → ceil_div a c ≤ ceil_div b c
ceil_div_mono a b c h less = ceil_div_least a c (ceil_div b c) h (omega (arith, ceil_div_reaches b c h))

pub ceil_div_of_smaller : (a b c : ℕ) → 0 < c → ceil_div (min a b) c ≡ min (ceil_div a c) (ceil_div b c)
ceil_div_of_smaller a b c h =
    by_le a b
    (λ less. let e : min a b ≡ a = omega arith in rw e (omega (arith, ceil_div_mono a b c h less)))
    (λ more. let e : min a b ≡ b = omega arith in rw e (omega (arith, ceil_div_mono b a c h (omega arith))))

-- Nothing else lies between those two bounds.
pub ceil_div_only : (a b c : ℕ) → 0 < b → a ≤ c * b → c * b < a + b → ceil_div a b ≡ c
ceil_div_only a b c h low high =
    let most : ceil_div a b ≤ c = ceil_div_least a b c h low in
    let least : c ≤ ceil_div a b = le_of_suc-le-suc (lt_of_mul-lt-mul_right b {m = c} {n = suc (ceil_div a b)} (omega (arith, ceil_div_reaches a b h))) in
    omega arith

-- Without a rest it is the quotient; with one, the quotient plus 1.
pub ceil_div_no_rest : (a b : ℕ) → 0 < b → a % b ≡ 0 → ceil_div a b ≡ a / b
ceil_div_no_rest a b h e = ceil_div_only a b (a / b) h (omega (arith, div-add-mod' a b)) (omega (arith, div-add-mod' a b))

pub ceil_div_rest : (a b : ℕ) → 0 < b → 0 < a % b → ceil_div a b ≡ a / b + 1
ceil_div_rest a b h e = ceil_div_only a b (a / b + 1) h (omega (arith, div-add-mod' a b, mod-lt a h)) (omega (arith, div-add-mod' a b))

-- It is what std's `div_ceil` ensures.
pub div_ceil_rounds_up : (a b : ℕ) → 0 < b → a / b + min 1 (a % b) ≡ ceil_div a b
div_ceil_rounds_up a b h = let times = div_ceil_times a b h in sym (ceil_div_only a b (a / b + min 1 (a % b)) h times.0 times.1)

-- Whole multiples of the divisor come out of the round-up exactly.
pub ceil_div_split : (q m a p : ℕ) → 0 < p → ceil_div ((q * p + m) * a) p ≡ q * a + ceil_div (m * a) p
ceil_div_split q m a p h =
    ceil_div_only ((q * p + m) * a) p (q * a + ceil_div (m * a) p) h (omega (arith, ceil_div_reaches (m * a) p h)) (omega (arith, ceil_div_within (m * a) p h))

-- A quotient with a rest is below what was divided.
pub quotient_below : (a b : ℕ) → 0 < b → 0 < a % b → a / b < a
quotient_below a b h e = omega (arith, div-add-mod' a b, mul-le-mul_left (a / b) h)
