-- What `Fields::number_u32` takes has 32 bits.
use native.Mathlib.Omega.{arith}
use Rattle.desk_lines.specs.Lines.{most32}
use Rattle.desk_lines.proofs.ReadingLaws.{value_within}
use Rattle.desk_lines.proofs.fields.Fields.number_u32.Goals as goal

pub overflow_cast-result : goal.overflow_cast-result
overflow_cast-result c = record { fits = omega (arith, value_within most32 _ c.in_ok-number.ensures) }
