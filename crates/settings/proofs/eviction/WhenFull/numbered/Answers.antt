-- `WhenFull::numbered` goes by whether the number is 0.
use Rattle.settings.specs.Eviction.{when_full_of}
use borrow.Author.Tests.{eq-eqb, ne_eqb}
use Rattle.settings.proofs.eviction.WhenFull.numbered.Goals as goal

pub returns-then-number-eq0 : goal.returns-then-number-eq0
unfolding when_full_of
returns-then-number-eq0 c = rw (eq-eqb _ _ c.if-number-eq0.true)

pub returns-else-number-eq0 : goal.returns-else-number-eq0
unfolding when_full_of
returns-else-number-eq0 c = rw (ne_eqb _ _ c.if-number-eq0.false)
