-- `key_on` adds, and the sum has at most 64 bits.
use Prim.Native.Nat.{◌+◌}
use native.Mathlib.Omega.{arith}
use Rattle.desk_lines.specs.Lines.{most64}
use borrow.Author.Tests.{leb-true}
use Rattle.exercise_lines.proofs.key_on.Goals as goal

pub overflow_add-result : goal.overflow_add-result
overflow_add-result c = record { fits = omega (arith, leb-true (c.args.key + c.args.place) most64 c.requires) }
