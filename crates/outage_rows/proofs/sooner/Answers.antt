-- `sooner` has a case for each outcome of a look.
use Rattle.outage_rows.proofs.NextLaws.{look_ended, look_first, look_earlier, look_later}
use Rattle.outage_rows.proofs.sooner.Goals as goal

pub returns-then-row-eq0 : goal.returns-then-row-eq0
returns-then-row-eq0 c = look_ended _ _ _ (rw c.load-row.ensures at c.if-row-eq0.true)

pub load-first-requires : goal.load-first-requires
load-first-requires c = (c.requires.0, rw c.in-Some.is at c.requires.2)

pub returns-in-None : goal.returns-in-None
returns-in-None c = rw c.in-None.is (look_first _ _ (rw c.load-row.ensures at c.if-row-eq0.false))

pub returns-then-row-first : goal.returns-then-row-first
returns-then-row-first c = rw c.in-Some.is
    (look_earlier _ _ _ (rw c.load-row.ensures at c.if-row-eq0.false) (rw (c.load-row.ensures, c.load-first.ensures) at c.if-row-first.true))

pub returns-else-row-first : goal.returns-else-row-first
returns-else-row-first c = rw c.in-Some.is
    (look_later _ _ _ (rw c.load-row.ensures at c.if-row-eq0.false) (rw (c.load-row.ensures, c.load-first.ensures) at c.if-row-first.false))
