-- `due_at` meets its contract: due after the wait.
use Rattle.bucket.proofs.BucketLaws.{due_by_number}
use mathlib.Core.Path.{◌∙◌}
use Rattle.bucket.proofs.BucketCore.due_at.Goals as goal

pub returns : goal.returns
returns c = c.after.ensures ∙ due_by_number _ _ c.time_until_at.ensures
