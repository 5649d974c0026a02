-- `add` lends the places to `places::add`, and the words are as they were but for the places.
use Rattle.index.proofs.LayoutLaws.{places_lent, places_back}
use Rattle.index.proofs.add.Goals as goal

pub returns : goal.returns
returns c = rw (places_back, c.add.ensures, places_lent)
