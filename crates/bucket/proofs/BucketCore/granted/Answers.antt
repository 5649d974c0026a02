-- `granted` meets its contract: its stamp is what `max` ensures.
use Rattle.bucket.proofs.BucketCore.granted.Goals as goal

pub returns : goal.returns
returns c = rw c.max.ensures
