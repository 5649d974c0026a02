-- `hash::add_if_odd` adds the lowest bit times `doubled`: that bit is 1 where the test holds, and else 0, where the sum so far stays as it is.
use Rattle.std.proofs.Common.{◌≡◌, ◌%◌, refl, mul-zero, mul-one, arith}
use Rattle.hash.proofs.add_if_odd.Goals as goal

pub returns-then-bits-eq1 : goal.returns-then-bits-eq1
returns-then-bits-eq1 c = rw (c.if-bits-eq1.true, mul-one) refl

pub returns-else-bits-eq1 : goal.returns-else-bits-eq1
returns-else-bits-eq1 c = let even : c.args.bits % 2 ≡ 0 = omega arith in rw (even, mul-zero) (omega arith)
