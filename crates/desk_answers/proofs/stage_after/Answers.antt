-- `stage_after` has a case for code 0 and one for the others.
use native.Mathlib.Omega.{arith}
use Rattle.desk_answers.proofs.DeskLaws.{opens, ends}
use Rattle.desk_answers.proofs.stage_after.Goals as goal

pub returns-then-code-eq0 : goal.returns-then-code-eq0
returns-then-code-eq0 c = opens c.args.settings c.args.code (omega (arith, c.if-code-eq0.true))

pub returns-else-code-eq0 : goal.returns-else-code-eq0
returns-else-code-eq0 c = ends _ _ c.if-code-eq0.false
