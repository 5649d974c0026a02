-- `take_out` meets its contract, by the two cases of its definition.
use Rattle.bucket.proofs.DebtLaws.{none_taken_out, some_taken_out}
use mathlib.Core.Path.{◌∙◌}
use Rattle.bucket.proofs.BucketCore.take_out.Goals as goal

pub returns-then-tokens-eq0 : goal.returns-then-tokens-eq0
returns-then-tokens-eq0 c = none_taken_out _ _ _ _ c.if-tokens-eq0.true

pub returns : goal.returns
returns c = c.charge_at.ensures ∙ some_taken_out _ _ _ _ c.if-tokens-eq0.false
