-- `bucket_at` reads the slot.
use Rattle.shard.proofs.bucket_at.Goals as goal

pub returns : goal.returns
returns c = rw c.get.ensures
