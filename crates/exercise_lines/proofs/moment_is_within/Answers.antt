-- `moment_is_within` divides what is left up to 64 bits by the spacing.
use native.Mathlib.Omega.{arith}
use Rattle.exercise_lines.proofs.RepeatLaws.{moment_by_division, moment_without_spacing}
use Rattle.exercise_lines.proofs.moment_is_within.Goals as goal

pub returns-then-spacing-eq0 : goal.returns-then-spacing-eq0
returns-then-spacing-eq0 c = moment_without_spacing c.args.at _ _ (omega arith) c.if-spacing-eq0.true

pub returns : goal.returns
returns c = moment_by_division c.args.at c.args.spacing _ (omega arith) (omega arith)
