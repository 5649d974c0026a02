-- `hash::wrapping_mul` is the product modulo 2^64: at each test of the loop, the sum so far and what the bits left over still add make that product.
use Rattle.std.proofs.Common.{◌≡◌, ℕ, ◌+◌, ◌*◌, ◌%◌, ◌^◌, ◌<◌}
use Rattle.hash.proofs.wrapping_mul.Given as goal

pub record Multiplying (a b product doubled bits : ℕ) : Type 0 where
  pub fits : product < 2 ^ 64
  pub keeps : (product + doubled * bits) % 2 ^ 64 ≡ (a * b) % 2 ^ 64

abbrev pub invariant-loop-bits : goal.invariant-loop-bits
invariant-loop-bits l = Multiplying l.a l.b l.product l.doubled l.bits

abbrev pub decreases-loop-bits : goal.decreases-loop-bits
decreases-loop-bits l = l.bits
