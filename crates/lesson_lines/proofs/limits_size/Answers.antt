-- From one place of the run back to another.
use Rattle.lesson_lines.proofs.SizeLaws.{limits_size_is}
use native.Mathlib.Omega.{arith}
use Rattle.lesson_lines.proofs.limits_size.Goals as goal

pub returns : goal.returns
returns c = omega (
  arith,
  limits_size_is c.args.limits,
  c.field_size-7.ensures.0,
  c.idle_size.ensures.0,
  c.field_size-6.ensures.0,
  c.field_size-5.ensures.0,
  c.field_size-4.ensures.0,
  c.field_size-3.ensures.0,
  c.field_size-2.ensures.0,
  c.field_size.ensures.0,
)
