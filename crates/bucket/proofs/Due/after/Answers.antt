-- `after` meets its contract: the moment is the sum, held to 64 bits.
use Rattle.bucket.proofs.Due.after.Goals as goal

pub returns : goal.returns
returns c = rw c.saturating_add.ensures
