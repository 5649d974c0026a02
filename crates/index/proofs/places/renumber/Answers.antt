-- `places::renumber` stores the number at the place that the walk gives, if the place is in use, as the definition does.
use Rattle.index.proofs.StepLaws.{renumber_in, renumber_none, renumber_past}
use Rattle.index.proofs.places.renumber.Goals.{else-z-ix-via-then-z-ix+else-ix-z-ne0, else-z-ix-via-else-z-ix}
use Rattle.index.proofs.places.renumber.Goals as goal

pub returns-then-ix-z-ne0 : goal.returns-then-ix-z-ne0
returns-then-ix-z-ne0 c = renumber_in _ _ _ _ _ c.seek-z.ensures c.if-ix-z-ne0.true

pub returns-else-z-ix : goal.returns-else-z-ix
returns-else-z-ix c = elim c.else-z-ix.branch [
  | else-z-ix-via-then-z-ix+else-ix-z-ne0 w ↦ renumber_none _ _ _ _ _ c.seek-z.ensures w.if-ix-z-ne0.false
  | else-z-ix-via-else-z-ix w ↦ renumber_past _ _ _ _ _ c.seek-z.ensures w.if-z-ix.false
]
