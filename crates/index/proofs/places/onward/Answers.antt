-- `places::onward` gives the place one step on, by the test of the definition.
use Rattle.index.proofs.StepLaws.{onward_on, onward_back}
use Rattle.index.proofs.places.onward.Goals as goal

pub returns-then-q-size : goal.returns-then-q-size
returns-then-q-size c = onward_on _ _ c.if-q-size.true

pub returns : goal.returns
returns c = onward_back _ _ c.if-q-size.false
