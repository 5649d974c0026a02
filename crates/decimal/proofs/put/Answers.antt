use native.Mathlib.Omega.{arith}
use mathlib.Core.Path.{refl, ◌∙◌}
use lib.ListN.{length-set}
use Rattle.decimal.proofs.WriteLaws.{some_digits, one_digit_is_written, all_to_store, last_digit_first, all_is_written}
use Rattle.decimal.proofs.put.Goals as goal

pub bounds-out-at : goal.bounds-out-at
bounds-out-at c = omega (arith, some_digits 20 c.args.n (omega arith))

pub returns-then-n-lt10 : goal.returns-then-n-lt10
returns-then-n-lt10 c = one_digit_is_written _ _ _ c.if-n-lt10.true

pub loop-i-init : goal.loop-i-init
loop-i-init c = let args' = c.args in
    let width' = c.width in
    record {
      same = refl;
      begun = omega arith;
      inside = omega arith;
      keeps = all_to_store args'.out.now _ _ _ width'.ensures;
    }

pub loop-i-preserved : goal.loop-i-preserved
loop-i-preserved c = let loop' = c.loop-i in
    record {
      same = simp length-set loop'.invariant.same;
      begun = omega arith;
      inside = omega arith;
      keeps = last_digit_first loop'.out _ loop'.i _ (omega arith) ∙ loop'.invariant.keeps;
    }

pub returns : goal.returns
returns c = let loop' = c.loop-i in
    all_is_written _ _ _ _ _ loop'.i loop'.rest c.width.ensures (omega arith) loop'.invariant.keeps
