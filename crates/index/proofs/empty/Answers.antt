-- `empty` stores 0 at a place of the index.
use Rattle.index.proofs.LayoutLaws.{place_set}
use Rattle.index.proofs.empty.Goals as goal

pub returns : goal.returns
returns c = place_set _ _ _ _ c.requires.1
