-- src/times.rt:51:9
use Rattle.lesson_words.proofs.TimeLaws.{no_fraction_at_end, fraction_at_point, no_fraction_at_another, front_fits}
use mathlib.Core.Path.{◌∙◌}
use Prim.Native.Nat.{◌+◌}
use native.Mathlib.Omega.{arith}
use Rattle.lesson_words.proofs.times.fraction_at.Goals as goal

pub returns-then-end-word : goal.returns-then-end-word
returns-then-end-word c = c.none.ensures ∙ no_fraction_at_end _ _ c.requires c.if-end-word.true

pub overflow_sub-result : goal.overflow_sub-result
overflow_sub-result c = let args' = c.args in
    omega (arith, (front_fits args'.word.now (args'.end + 1) (omega arith) c.front-digits.ensures).begun)

pub returns-then-word-end-eq46 : goal.returns-then-word-end-eq46
returns-then-word-end-eq46 c = fraction_at_point _ _ c.requires c.if-word-end-eq46.true c.front-digits.ensures

pub returns : goal.returns
returns c = c.none-2.ensures ∙ no_fraction_at_another _ _ c.requires c.if-word-end-eq46.false
