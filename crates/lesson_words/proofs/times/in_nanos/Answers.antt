-- src/times.rt:171:42
use Rattle.lesson_words.proofs.TimeLaws.{power_positive, units_multiplied, units_divided, factor_fits, digits_times_unit}
use mathlib.Core.Path.{◌∙◌}
use native.Mathlib.Omega.{arith}
use Prim.Native.Nat.{◌-◌}
use Rattle.lesson_words.proofs.times.in_nanos.Goals as goal

pub overflow_mul-unit : goal.overflow_mul-unit
overflow_mul-unit c = let args' = c.args in
    record {
      fits = rw c.power.ensures
          (omega (arith, factor_fits args'.unit.by (args'.unit.tens - args'.places) c.requires.2 (omega (arith, c.requires.4))));
    }

pub returns-then-places-unit : goal.returns-then-places-unit
returns-then-places-unit c = rw c.power.ensures at c.product.ensures
    ∙ units_multiplied _ _ c.args.unit c.if-places-unit.true

pub overflow_mul-digits : goal.overflow_mul-digits
overflow_mul-digits c = let args' = c.args in
    record { fits = omega (arith, digits_times_unit args'.digits args'.unit.by c.requires.0 c.requires.2) }

pub quotient-requires : goal.quotient-requires
quotient-requires c = rw c.power-2.ensures (power_positive _)

pub returns : goal.returns
returns c = rw c.power-2.ensures at c.quotient.ensures
    ∙ units_divided _ _ c.args.unit c.if-places-unit.false
