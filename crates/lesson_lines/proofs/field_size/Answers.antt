-- src/lib.rt:198:9
use Rattle.decimal.proofs.WriteLaws.{digits_count}
use native.Mathlib.Omega.{arith}
use Rattle.lesson_lines.proofs.field_size.Goals as goal

pub overflow_add-result : goal.overflow_add-result
overflow_add-result c = record { fits = omega (arith, digits_count c.args.n, c.width.ensures) }

pub returns : goal.returns
returns c = let width' = c.width in
    (omega (arith, width'.ensures), omega (arith, digits_count c.args.n, width'.ensures))
