-- `request_on` adds to both numbers, and each sum has at most 64 bits.
use native.Mathlib.Omega.{arith}
use Rattle.exercise_lines.proofs.RepeatLaws.{both_within}
use Rattle.exercise_lines.proofs.request_on.Goals as goal

pub overflow_mul-result : goal.overflow_mul-result
overflow_mul-result c = record { fits = omega (arith, (both_within _ _ _ c.requires).moment) }

pub overflow_add-result : goal.overflow_add-result
overflow_add-result c = record { fits = omega (arith, (both_within _ _ _ c.requires).moment) }

pub overflow_add-result-2 : goal.overflow_add-result-2
overflow_add-result-2 c = record { fits = omega (arith, (both_within _ _ _ c.requires).key) }
