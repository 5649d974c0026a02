-- `scan` moves the cursor past a row of unsettled debts and chooses the soonest of them, and else makes its looks one by one.
use mathlib.Core.Path.{sym, ◌∙◌}
use native.Mathlib.Omega.{arith}
use Rattle.ledger.proofs.RowLaws.{RowFits, row_fits, unsettled_are_scanned}
use Rattle.ledger.proofs.scan.Goals as goal

-- Then the row lies below the cap.
row : (c : goal.Then-meets_unsettled) → RowFits c.args.cap c.cursor-first.result c.ledger_looks-looks.result
row c = row_fits _ c.requires.0 c.cursor-first.ensures c.meets_unsettled.ensures c.if-meets_unsettled.true

pub overflow_add-end : goal.overflow_add-end
overflow_add-end c = omega (arith, (row c).fits, c.ranges)

pub soonest_before-best-requires : goal.soonest_before-best-requires
soonest_before-best-requires c = (c.requires.0, (row c).some, omega arith, (row c).fits)

pub returns-then-meets_unsettled : goal.returns-then-meets_unsettled
returns-then-meets_unsettled c = let looks = c.ledger_looks-looks.ensures in
    let is = sym c.meets_unsettled.ensures ∙ c.if-meets_unsettled.true in
    rw c.set_cursor.ensures (unsettled_are_scanned _ _ c.cursor-first.ensures looks is c.soonest_before-best.ensures)
