-- `check_count`: one law for each outcome of the comparison.
use Rattle.classes.proofs.RefusalLaws.{counted_too_many, counted_few}
use native.Mathlib.Omega.{arith}
use Rattle.classes.proofs.check_count.Goals as goal

pub returns-then-count-gt-MOST_CLASSES : goal.returns-then-count-gt-MOST_CLASSES
returns-then-count-gt-MOST_CLASSES c = counted_too_many _ (omega arith)

pub returns : goal.returns
returns c = counted_few _ (omega arith)
