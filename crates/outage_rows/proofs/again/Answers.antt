-- `again` has a case for code 1 and one for the others.
use Rattle.outage_rows.proofs.RunLaws.{told_otherwise, told_to_retry}
use native.Mathlib.Omega.{arith}
use Rattle.outage_rows.proofs.again.Goals as goal

pub returns-then-told-ne1 : goal.returns-then-told-ne1
returns-then-told-ne1 c = told_otherwise _ _ c.if-told-ne1.true

pub returns : goal.returns
returns c = told_to_retry _ _ (omega (arith, c.if-told-ne1.false))
