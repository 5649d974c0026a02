-- `request` reads the cost as `cost_of` does.
use Rattle.outage_rows.proofs.request.Goals as goal

pub returns : goal.returns
returns c = rw c.cost_of.ensures
