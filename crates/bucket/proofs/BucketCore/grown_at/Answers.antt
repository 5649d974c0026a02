-- `grown_at` meets its contract: no wait stays none, another grows by the time until the stamp.
use Rattle.bucket.proofs.BucketLaws.{no_wait_stays_none, wait_grows}
use Rattle.bucket.proofs.BucketCore.grown_at.Goals as goal

pub returns-then-wait-eq0 : goal.returns-then-wait-eq0
returns-then-wait-eq0 c = no_wait_stays_none _ _ _ c.if-wait-eq0.true

pub returns : goal.returns
returns c = rw (c.saturating_add.ensures, c.saturating_sub.ensures) (wait_grows _ _ _ c.if-wait-eq0.false)
