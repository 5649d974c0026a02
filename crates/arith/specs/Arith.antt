-- Division rounded up, and numbers held to 64 bits.
use Rattle.std.specs.Prelude.{ℕ, ◌+◌, ◌-◌, ◌/◌, ◌^◌, min}

-- a divided by b, rounded up.
unfoldable pub ceil_div : ℕ → ℕ → ℕ
ceil_div a b = (a + (b - 1)) / b

-- A number held to 64 bits: itself, or the largest that 64 bits hold.
abbrev pub saturated : ℕ → ℕ
saturated n = min n (2 ^ 64 - 1)
