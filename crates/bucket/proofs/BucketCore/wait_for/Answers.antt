-- `wait_for` meets its contract, by the three cases of a wait: no cost, nothing lacking, something lacking.
use Rattle.bucket.proofs.BucketLaws.{no_cost_no_wait, enough_no_wait, wait_for_lack}
use Rattle.bucket.proofs.BucketCore.wait_for.Goals as goal

pub returns-then-cost-eq0 : goal.returns-then-cost-eq0
returns-then-cost-eq0 c = no_cost_no_wait _ _ _ _ c.if-cost-eq0.true

pub returns-then-wanted-full : goal.returns-then-wanted-full
returns-then-wanted-full c = enough_no_wait _ _ _ c.requires.0 (rw (c.requires.1, c.full_parts-full.ensures) at c.if-wanted-full.true)

pub returns : goal.returns
returns c = rw (c.grown_at.ensures, c.recovery_of.ensures, c.full_parts-full.ensures, c.requires.1) (wait_for_lack _ _ _ _ c.if-cost-eq0.false)
