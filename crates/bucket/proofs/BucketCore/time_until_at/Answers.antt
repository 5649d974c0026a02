-- `time_until_at` meets its contract: the wait by what a grant would store.
use Rattle.bucket.proofs.BucketCore.time_until_at.Goals as goal

pub wait_for-requires : goal.wait_for-requires
wait_for-requires c = (c.requires.0, c.wanted_at.ensures)

pub returns : goal.returns
returns c = c.wait_for.ensures
