-- `turns_away` is true of a try that this bucket makes wait.
use mathlib.Core.Path.{sym, ◌∙◌}
use Rattle.bucket.proofs.Request.turns_away.Goals as goal

pub returns-then-is_try : goal.returns-then-is_try
returns-then-is_try c = rw (sym c.is_try.ensures ∙ c.if-is_try.true)
