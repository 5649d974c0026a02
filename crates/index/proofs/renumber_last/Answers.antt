-- `renumber_last` lends the places to `places::renumber`, with the hash of the last item.
use Rattle.index.proofs.LayoutLaws.{places_lent, places_back}
use Rattle.index.proofs.renumber_last.Goals as goal

pub returns : goal.returns
returns c = rw (places_back, c.renumber.ensures, places_lent, c.item_word-hash.ensures)
