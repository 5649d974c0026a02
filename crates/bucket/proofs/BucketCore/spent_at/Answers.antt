-- `spent_at` meets its contract: its shortfall is `wanted_at`'s.
use Rattle.bucket.proofs.BucketCore.spent_at.Goals as goal

pub returns : goal.returns
returns c = rw (c.granted.ensures, c.wanted_at.ensures)
