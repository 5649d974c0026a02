-- `field_size` adds the space.
use native.Mathlib.Omega.{arith}
use Rattle.decimal.proofs.WriteLaws.{digits_count}
use Rattle.desk_writer.proofs.field_size.Goals as goal

pub overflow_add-result : goal.overflow_add-result
overflow_add-result c = record { fits = omega (arith, digits_count c.args.n, c.width.ensures) }

pub returns : goal.returns
returns c = (omega (arith, c.width.ensures), omega (arith, digits_count c.args.n, c.width.ensures))
