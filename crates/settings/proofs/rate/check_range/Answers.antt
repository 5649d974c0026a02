-- `check_range` is one check of a range with nothing after it.
use Rattle.settings.proofs.RateLaws.{outside_is_refused, within_is_passed}
use native.Mathlib.Omega.{arith}
use mathlib.Core.Logic.{inl, inr}
use mathlib.Core.Path.{sym}
use Rattle.settings.proofs.rate.check_range.Goals as goal

pub returns-then-value-lt1 : goal.returns-then-value-lt1
returns-then-value-lt1 c = sym (outside_is_refused _ _ _ _ (inl (omega arith)))

pub returns-then-most-value : goal.returns-then-most-value
returns-then-most-value c = sym (outside_is_refused _ _ _ _ (inr (omega arith)))

pub returns : goal.returns
returns c = sym (within_is_passed _ _ _ _ (omega arith, omega arith))
