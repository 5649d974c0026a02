-- `alike` tests the hashes first, then the keys, as the definition does.
use Rattle.converter_shards.proofs.CheckLaws.{alike_by_key, alike_not}
use native.Mathlib.Omega.{arith}
use mathlib.Core.Path.{◌∙◌, sym}
use borrow.Author.Tests.{ne_eqb}
use Rattle.converter_shards.proofs.alike.Goals as goal

pub row_word-requires : goal.row_word-requires
row_word-requires c = let pre' = c.requires in (pre'.0, pre'.1, omega (arith, pre'.0.within))

pub row_word-requires-2 : goal.row_word-requires-2
row_word-requires-2 c = let pre' = c.requires in (pre'.0, pre'.2, omega (arith, pre'.0.within))

pub row_word-requires-then-row_word : goal.row_word-requires-then-row_word
row_word-requires-then-row_word c = let pre' = c.requires in (pre'.0, pre'.1, pre'.0.within)

pub row_word-requires-then-row_word-2 : goal.row_word-requires-then-row_word-2
row_word-requires-then-row_word-2 c = let pre' = c.requires in (pre'.0, pre'.2, pre'.0.within)

pub returns-then-row_word : goal.returns-then-row_word
returns-then-row_word c = rw (c.row_word-then-row_word-2.ensures, c.row_word-then-row_word.ensures) (alike_by_key _ _ _ _ (sym c.row_word.ensures
    ∙ c.if-row_word.true ∙ c.row_word-2.ensures))

pub returns-else-row_word : goal.returns-else-row_word
returns-else-row_word c = ne_eqb _ _ c.if-row_word.false ∙ alike_not _ _ _ _ (rw (c.row_word.ensures, c.row_word-2.ensures) at c.if-row_word.false)
