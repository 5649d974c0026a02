-- `place_of` lends the places to `places::seek`, with the hash of the item and its number plus 1.
use Rattle.index.proofs.LayoutLaws.{places_lent}
use Rattle.index.proofs.place_of.Goals as goal

pub returns : goal.returns
returns c = rw (c.seek.ensures, places_lent, c.item_word-hash.ensures)
