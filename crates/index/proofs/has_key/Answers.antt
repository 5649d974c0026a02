-- `has_key` tests the hash of an item first, then its key, as the definition does.
use Rattle.std.proofs.Common.{sym, ◌∙◌, ne_eqb}
use Rattle.index.proofs.LayoutLaws.{keyed_by_key, keyed_not}
use Rattle.index.proofs.has_key.Goals as goal

pub returns-then-item_word-hash : goal.returns-then-item_word-hash
returns-then-item_word-hash c = rw c.item_word-then-item_word-hash.ensures (keyed_by_key _ _ _ _ _ (sym c.item_word.ensures ∙ c.if-item_word-hash.true))

pub returns-else-item_word-hash : goal.returns-else-item_word-hash
returns-else-item_word-hash c = let other = c.if-item_word-hash.false in
    ne_eqb _ _ other ∙ keyed_not _ _ _ _ _ (rw c.item_word.ensures at other)
