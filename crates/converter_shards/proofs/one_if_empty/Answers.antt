-- `one_if_empty` is the test of its definition.
use borrow.Author.Tests.{eq-eqb, ne_eqb}
use Rattle.converter_shards.proofs.one_if_empty.Goals as goal

pub returns-then-word-eq0 : goal.returns-then-word-eq0
returns-then-word-eq0 c = rw (eq-eqb _ _ c.if-word-eq0.true)

pub returns-else-word-eq0 : goal.returns-else-word-eq0
returns-else-word-eq0 c = rw (ne_eqb _ _ c.if-word-eq0.false)
