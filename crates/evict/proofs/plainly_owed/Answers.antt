-- `plainly_owed` has one return for each case of its definition: a slot with the mark, one whose stamp is after the moment, and any other.
use native.Mathlib.Omega.{arith}
use Rattle.evict.proofs.RowLaws.{marked_owes_none, ahead_owes_none, owes_its_shortfall}
use Rattle.evict.proofs.plainly_owed.Goals as goal

pub returns-then-slot-ne0 : goal.returns-then-slot-ne0
returns-then-slot-ne0 c = marked_owes_none _ _ _ c.if-slot-ne0.true

pub returns-then-at-slot : goal.returns-then-at-slot
returns-then-at-slot c = ahead_owes_none _ _ _ c.if-slot-ne0.false c.if-at-slot.true

pub returns : goal.returns
returns c = rw c.shortfall_at.ensures (owes_its_shortfall _ _ _ c.if-slot-ne0.false (omega (arith, c.if-at-slot.false)))
