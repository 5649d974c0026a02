-- `move_word` stores at two places of the index.
use Rattle.std.proofs.Common.{arith, length-set}
use Rattle.index.proofs.LayoutLaws.{two_places_set}
use Rattle.index.proofs.move_word.Goals as goal

pub bounds-ws-k : goal.bounds-ws-k
bounds-ws-k c = simp length-set (omega arith)

pub returns : goal.returns
returns c = two_places_set _ _ _ _ _ _ c.requires.1 c.requires.2
