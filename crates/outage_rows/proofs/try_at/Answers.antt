-- `try_at` loads a row, tries it, and stores it as it is then.
use Rattle.outage_rows.proofs.TryLaws.{state_tried}
use Rattle.outage_rows.proofs.try_at.Goals as goal

pub returns : goal.returns
returns c = state_tried _ _ _ _ _ _ _ _ _ c.load-row.ensures (rw c.request.ensures at c.tried-told.ensures)
    (rw c.after_try.ensures at c.put.ensures.0) c.put.ensures.1
