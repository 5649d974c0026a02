-- `check_number`: one law for each outcome of the comparison.
use Rattle.classes.proofs.RefusalLaws.{number_in_the_table, number_past_the_table}
use native.Mathlib.Omega.{arith}
use Rattle.classes.proofs.check_number.Goals as goal

pub returns-then-class-count : goal.returns-then-class-count
returns-then-class-count c = number_in_the_table _ _ (omega arith)

pub returns : goal.returns
returns c = number_past_the_table _ _ (omega arith)
