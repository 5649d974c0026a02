-- `exponent_for` is the least exponent: the leading zeros of 2 (n - 1) + 1 and that exponent make 63.
use Prim.Native.Nat.{◌+◌, ◌*◌}
use mathlib.Core.Path.{◌≡◌}
use lib.Count.{count_leading_zeros}
use native.Mathlib.Omega.{arith}
use Rattle.settings.specs.Powers.{exponent_for}
use Rattle.settings.proofs.PowerLaws.{leading_zeros_give_the_exponent}
use Rattle.settings.proofs.exponent_for.Goals as goal

zeros-and-exponent-make-63 : (c : goal.After-saturating_sub) → count_leading_zeros 64 (2 * c.saturating_sub.result + 1) + exponent_for c.args.n ≡ 63
zeros-and-exponent-make-63 c = rw c.saturating_sub.ensures (leading_zeros_give_the_exponent c.args.n (omega (arith, c.requires)))

pub overflow_mul-result : goal.overflow_mul-result
overflow_mul-result c = omega (arith, c.saturating_sub.ensures, c.requires)

pub overflow_add-result : goal.overflow_add-result
overflow_add-result c = omega (arith, c.saturating_sub.ensures, c.requires)

pub overflow_sub-result : goal.overflow_sub-result
overflow_sub-result c = omega (arith, zeros-and-exponent-make-63 c)

pub returns : goal.returns
returns c = omega (arith, zeros-and-exponent-make-63 c)
