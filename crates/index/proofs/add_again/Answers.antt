-- `add_again` adds the item that the word names, and leaves all as it is where the word names none.
use Rattle.std.proofs.Common.{sym}
use Rattle.index.proofs.LayoutLaws.{same_places}
use Rattle.index.proofs.StepLaws.{add_again_named, add_again_nothing}
use Rattle.index.proofs.add_again.Goals as goal

pub returns-then-word-n : goal.returns-then-word-n
returns-then-word-n c = rw (c.add.ensures, c.item_word-hash.ensures, add_again_named _ _ _ _ c.if-word-n.true)

pub returns-else-word-n : goal.returns-else-word-n
returns-else-word-n c = rw (add_again_nothing _ _ _ _ c.if-word-n.false) (sym (same_places _ _))
