use Rattle.std.proofs.Common.{◌≡◌, ◌^◌, ◌∙◌, mul-zero, zero-add, arith}
use Rattle.hash.proofs.ProductLaws.{turn_keeps_product}
use Rattle.hash.proofs.wrapping_mul.Goals as goal

pub loop-bits-init : goal.loop-bits-init
loop-bits-init c = record { fits = omega arith; keeps = rw zero-add }

pub loop-bits-preserved : goal.loop-bits-preserved
loop-bits-preserved c = let turn = c.loop-bits in
    let sum = c.add_if_odd-product.ensures in
    record {
      fits = omega (arith, sum);
      keeps = rw sum (turn_keeps_product (2 ^ 64) turn.product turn.doubled turn.bits ∙ turn.invariant.keeps);
    }

pub returns : goal.returns
returns c = let end = c.loop-bits in
    let none_left : end.bits ≡ 0 = c.loop-bits-test.false in
    omega (arith, mul-zero end.doubled, rw none_left at end.invariant.keeps)
