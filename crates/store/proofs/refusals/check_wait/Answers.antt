-- `check_wait` compares the wait with the longest.
use native.Mathlib.Omega.{arith}
use mathlib.Core.Path.{sym}
use Rattle.store.proofs.RefusalLaws.{wait_is_accepted, long_wait_is_refused}
use Rattle.store.proofs.refusals.check_wait.Goals as goal

pub returns-then-max_wait-gt-LONGEST_MAX_WAIT : goal.returns-then-max_wait-gt-LONGEST_MAX_WAIT
returns-then-max_wait-gt-LONGEST_MAX_WAIT c = sym (long_wait_is_refused _ (omega arith))

pub returns-else-max_wait-gt-LONGEST_MAX_WAIT : goal.returns-else-max_wait-gt-LONGEST_MAX_WAIT
returns-else-max_wait-gt-LONGEST_MAX_WAIT c = sym (wait_is_accepted _ (omega arith))
