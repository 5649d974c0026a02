-- `unplaced` walks to the number of the item and looks whether the walk met it.
use Rattle.converter_shards.proofs.ExactTestLaws.{unplaced_by_word, unplaced_by_place}
use Rattle.index.proofs.LayoutLaws.{places_length}
use Rattle.converter_shards.proofs.unplaced.Goals as goal

pub returns-then-index-q : goal.returns-then-index-q
returns-then-index-q c = unplaced_by_place _ _ _ (places_length _ _ c.requires.0.inside) c.place_of-q.ensures c.if-index-q.true

pub returns-else-index-q : goal.returns-else-index-q
returns-else-index-q c = unplaced_by_word _ _ _ c.place_of-q.ensures c.word_at.ensures
