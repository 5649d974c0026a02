-- `Awaited::with` goes by the stamp, as its definition does.
use Rattle.evict.proofs.AwaitedLaws.{awaits_its_shortfall, awaits_its_recovery}
use native.Mathlib.Omega.{arith}
use Rattle.evict.proofs.Awaited.with.Goals as goal

pub returns-then-bucket-at : goal.returns-then-bucket-at
returns-then-bucket-at c = rw (c.min.ensures, c.requires.1) (awaits_its_shortfall _ _ _ _ c.if-bucket-at.true)

pub returns : goal.returns
returns c = rw (c.min-2.ensures, c.recovers_in-recovers_in.ensures) (awaits_its_recovery _ _ _ _ (omega (arith, c.if-bucket-at.false)))
