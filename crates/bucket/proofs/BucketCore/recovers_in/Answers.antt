-- `recovers_in` divides the shortfall: grown, that is the wait for as many tokens as the bucket can hold.
use Rattle.bucket.proofs.BucketLaws.{recovery_of_shortfall}
use Rattle.bucket.proofs.BucketCore.recovers_in.Goals as goal

pub returns : goal.returns
returns c = rw (c.grown_at.ensures, c.recovery_of-recovery.ensures, c.shortfall_at.ensures) (recovery_of_shortfall _ _ c.requires)
