-- `places::steps` counts the steps straight on, or past the last place.
use Rattle.index.proofs.WayLaws.{steps_on, steps_round}
use Rattle.index.proofs.places.steps.Goals as goal

pub returns-then-from-to : goal.returns-then-from-to
returns-then-from-to c = steps_on _ _ _ c.if-from-to.true

pub returns : goal.returns
returns c = steps_round _ _ _ c.if-from-to.false
