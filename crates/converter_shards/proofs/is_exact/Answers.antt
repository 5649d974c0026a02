-- `is_exact` makes the three tests of the definition in its order.
use Rattle.converter_shards.proofs.ExactTestLaws.{test_no_room, test_not_empty, test_by_walks}
use Rattle.index.proofs.LayoutLaws.{places_length}
use borrow.Author.Tests.{ne_eqb}
use mathlib.Core.Path.{◌∙◌}
use Rattle.converter_shards.proofs.is_exact.Goals as goal

pub returns-then-index-n : goal.returns-then-index-n
returns-then-index-n c = test_no_room _ _ _ (places_length _ _ c.requires.inside) c.if-index-n.true

pub returns-then-empty_places-index : goal.returns-then-empty_places-index
returns-then-empty_places-index c =
    test_by_walks _ _ _ (places_length _ _ c.requires.inside) c.if-index-n.false c.empty_places.ensures c.if-empty_places-index.true c.any_unplaced.ensures

pub returns-else-empty_places-index : goal.returns-else-empty_places-index
returns-else-empty_places-index c = ne_eqb _ _ c.if-empty_places-index.false
    ∙ test_not_empty _ _ _ (places_length _ _ c.requires.inside) c.empty_places.ensures c.if-empty_places-index.false
