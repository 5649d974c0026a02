-- `Awaited::soonest` divides only where a shortfall was noted, as its definition does.
use Rattle.evict.proofs.AwaitedLaws.{soonest_of_the_later, soonest_of_both}
use Rattle.evict.proofs.Awaited.soonest.Goals as goal

pub returns-then-self-eq18446744073709551615 : goal.returns-then-self-eq18446744073709551615
returns-then-self-eq18446744073709551615 c = soonest_of_the_later _ _ c.if-self-eq18446744073709551615.true

pub returns : goal.returns
returns c = rw (c.min.ensures, c.recovery_of-recovery.ensures) (soonest_of_both _ _ c.if-self-eq18446744073709551615.false)
