-- `places::add` stores the number at the place that the walk gives. Past the last place it stores nothing, and neither does the definition.
use Rattle.index.proofs.StepLaws.{add_in, add_past}
use Rattle.index.proofs.places.add.Goals as goal

pub returns-then-z-ix : goal.returns-then-z-ix
returns-then-z-ix c = add_in _ _ _ _ c.seek-z.ensures

pub returns-else-z-ix : goal.returns-else-z-ix
returns-else-z-ix c = add_past _ _ _ _ c.seek-z.ensures c.if-z-ix.false
