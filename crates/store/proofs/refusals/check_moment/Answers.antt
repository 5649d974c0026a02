-- `check_moment` compares the moment with the latest.
use native.Mathlib.Omega.{arith}
use mathlib.Core.Path.{sym}
use Rattle.store.proofs.RefusalLaws.{moment_is_accepted, late_moment_is_refused}
use Rattle.store.proofs.refusals.check_moment.Goals as goal

pub returns-then-at-gt-LATEST_MOMENT : goal.returns-then-at-gt-LATEST_MOMENT
returns-then-at-gt-LATEST_MOMENT c = sym (late_moment_is_refused _ (omega arith))

pub returns-else-at-gt-LATEST_MOMENT : goal.returns-else-at-gt-LATEST_MOMENT
returns-else-at-gt-LATEST_MOMENT c = sym (moment_is_accepted _ (omega arith))
