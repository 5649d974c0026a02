-- `print::rows` writes as many rows as there are words for.
use Rattle.outage_rows.proofs.print.rows.Goals as goal

pub returns : goal.returns
returns c = rw c.count-n.ensures.0 at c.first_rows.ensures
