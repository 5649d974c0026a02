-- `Walk::noted` has one return for each case of its definition: a full slot, and one that is not full with and without the mark.
use Rattle.evict.proofs.WalkLaws.{or_is_or_else}
use Rattle.evict.proofs.ModelLaws.{noted_full, noted_unmarked, noted_marked}
use Rattle.evict.proofs.Walk.noted.Goals as goal

pub returns-then-shortfall-eq0 : goal.returns-then-shortfall-eq0
returns-then-shortfall-eq0 c = rw (c.or.ensures, or_is_or_else _ _) (noted_full _ _ _ _ _ c.shortfall_at-shortfall.ensures c.if-shortfall-eq0.true)

pub with-awaited-requires : goal.with-awaited-requires
with-awaited-requires c = (c.requires, c.shortfall_at-shortfall.ensures)

pub returns-then-slot-eq0 : goal.returns-then-slot-eq0
returns-then-slot-eq0 c = rw (c.or-then-slot-eq0.ensures, or_is_or_else _ _)
    (noted_unmarked _ _ _ _ _ c.shortfall_at-shortfall.ensures c.if-shortfall-eq0.false c.with-awaited.ensures c.if-slot-eq0.true)

pub returns : goal.returns
returns c = noted_marked _ _ _ _ _ c.shortfall_at-shortfall.ensures c.if-shortfall-eq0.false c.with-awaited.ensures c.if-slot-eq0.false
