-- `fields::ends_at` looks for the end of the line, and for a space.
use native.Mathlib.Omega.{arith}
use mathlib.Core.Path.{◌∙◌}
use Rattle.desk_lines.proofs.FieldLaws.{ends_at_end, ends_at_space}
use borrow.Author.Tests.{eq-eqb}
use Rattle.desk_lines.proofs.fields.ends_at.Goals as goal

pub returns-then-place-line : goal.returns-then-place-line
returns-then-place-line c = eq-eqb _ _ c.if-place-line.true ∙ ends_at_end _ _ c.if-place-line.true

pub returns-else-place-line : goal.returns-else-place-line
returns-else-place-line c = ends_at_space _ _ (omega (arith, c.if-place-line.false))
