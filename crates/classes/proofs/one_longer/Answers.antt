-- `one_longer`: one law for each return.
use Rattle.classes.proofs.LengthLaws.{too_long_stays_so, none_is_longer, longer_by_one}
use mathlib.Core.Path.{sym}
use native.Mathlib.Omega.{arith}
use Rattle.classes.proofs.one_longer.Goals as goal

pub returns-then-length-eq0 : goal.returns-then-length-eq0
returns-then-length-eq0 c = sym (too_long_stays_so _ c.if-length-eq0.true)

pub returns-then-length-ge-LONGEST_CHAIN : goal.returns-then-length-ge-LONGEST_CHAIN
returns-then-length-ge-LONGEST_CHAIN c = sym (none_is_longer _ c.if-length-eq0.false (omega arith))

pub returns : goal.returns
returns c = sym (longer_by_one _ c.if-length-eq0.false (omega arith))
