-- A product modulo n by doubling and adding: the one law that a turn of `wrapping_mul` needs, for every modulus.
use Rattle.std.proofs.Common.{◌≡◌, ℕ, ◌+◌, ◌*◌, ◌/◌, ◌%◌, sym, ap, ◌∙◌, mul_assoc, add-mul, mul-add, arith}
use native.Mathlib.Nat.{mod-add-div, add-mul-mod_self_left, mod-add-mod, add-mod-mod}

-- A factor may be reduced before the product.
reduced_factor : (n x y : ℕ) → (x % n * y) % n ≡ (x * y) % n
reduced_factor n x y = sym (ap (λ (t : ℕ). t * y % n) (sym (mod-add-div x n)) ∙ rw (add-mul, mul_assoc n, add-mul-mod_self_left))

-- So may a factor of a summand.
reduced_factor_in_sum : (n p x y : ℕ) → (p + x % n * y) % n ≡ (p + x * y) % n
reduced_factor_in_sum n p x y =
    sym (add-mod-mod p (x % n * y) n) ∙ ap (λ (t : ℕ). (p + t) % n) (reduced_factor n x y) ∙ add-mod-mod p (x * y) n

-- A product is x once if y is odd, and twice x times half of y.
product_by_lowest_bit : (x y : ℕ) → x * y ≡ x * (y % 2) + (x + x) * (y / 2)
product_by_lowest_bit x y =
    let halves : y ≡ y / 2 * 2 + y % 2 = omega arith in
    ap (λ (t : ℕ). x * t) halves ∙ omega (arith, mul-add x (y / 2 * 2) (y % 2), mul_assoc x (y / 2) 2, add-mul x x (y / 2))

-- The sum p with what is still to come, x times y, stays the same modulo n when x is added for a lowest bit of y, then doubled, and y halved.
pub turn_keeps_product : (n p x y : ℕ) → ((p + x * (y % 2)) % n + (x + x) % n * (y / 2)) % n ≡ (p + x * y) % n
turn_keeps_product n p x y =
    mod-add-mod (p + x * (y % 2)) n ((x + x) % n * (y / 2))
    ∙ reduced_factor_in_sum n (p + x * (y % 2)) (x + x) (y / 2)
    ∙ ap (λ (t : ℕ). t % n) (omega (arith, product_by_lowest_bit x y))
