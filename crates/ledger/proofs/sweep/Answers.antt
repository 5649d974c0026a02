-- `sweep` moves the cursor past a row of unsettled debts, and else makes its looks one by one.
use mathlib.Core.Path.{sym, ◌∙◌}
use native.Mathlib.Omega.{arith}
use Rattle.ledger.proofs.RowLaws.{row_fits, unsettled_are_swept}
use Rattle.ledger.proofs.sweep.Goals as goal

pub overflow_add-first : goal.overflow_add-first
overflow_add-first c = let row = row_fits _ c.requires c.cursor-first.ensures c.meets_unsettled.ensures c.if-meets_unsettled.true in
    omega (arith, row.fits, c.ranges)

pub returns-then-meets_unsettled : goal.returns-then-meets_unsettled
returns-then-meets_unsettled c = let is = sym c.meets_unsettled.ensures ∙ c.if-meets_unsettled.true in
    rw c.set_cursor.ensures (unsettled_are_swept _ _ _ c.cursor-first.ensures is)
