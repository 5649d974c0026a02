use Rattle.outage_rows.proofs.PrintLaws.{none_printed, one_printed, all_printed}
use Rattle.outage_rows.proofs.LayoutLaws.{rows_count}
use native.Mathlib.Omega.{arith}
use Rattle.outage_rows.proofs.print.first_rows.Goals as goal

pub loop-i-init : goal.loop-i-init
loop-i-init c = none_printed _ _ (rows_count _ _) _ _ c.requires.1

pub load-requires : goal.load-requires
load-requires c = (c.requires.0, c.loop-i-test.true)

pub row-at-requires : goal.row-at-requires
row-at-requires c = let loop' = c.loop-i in
    omega (arith, loop'.invariant.room, loop'.invariant.long, c.loop-i-test.true)

pub loop-i-preserved : goal.loop-i-preserved
loop-i-preserved c = one_printed _ _ c.loop-i.invariant c.loop-i-test.true (omega arith) c.load.ensures c.row-at.auto.out c.row-at.ensures

pub shape_of-out : goal.shape_of-out
shape_of-out c = c.loop-i.invariant.long

pub returns : goal.returns
returns c = all_printed _ _ c.loop-i.invariant c.loop-i-test.false
