-- The step up to a power of two.
use Rattle.std.specs.Prelude.{ℕ, zero, suc, ◌^◌, cond, leb}

-- The least exponent from e on whose power of two is not below n. So many exponents are tried; where none of them serves, it is the next one.
unfoldable pub exponent_from : ℕ → ℕ → ℕ → ℕ
exponent_from zero e n = e
exponent_from (suc left) e n = cond (leb n (2 ^ e)) e (exponent_from left (suc e) n)

-- The least exponent whose power of two is not below n. n tries are enough, since 2 ^ n is above n.
unfoldable pub exponent_for : ℕ → ℕ
exponent_for n = exponent_from n 0 n

-- The least power of two that is not below n; 1 for 0. In Rust this is `next_power_of_two`.
abbrev pub next_power_of_two : ℕ → ℕ
next_power_of_two n = 2 ^ exponent_for n
