-- `indexes_exact` tests the index of the slots, then that of the debts.
use Rattle.converter_shards.proofs.PresentLaws.{slots_index_fits, debts_index_fits, not_exact_slots, exact_by_debts}
use mathlib.Core.Path.{◌∙◌}
use Rattle.converter_shards.proofs.indexes_exact.Goals as goal

pub is_exact-requires : goal.is_exact-requires
is_exact-requires c = rw c.index.ensures (slots_index_fits c.requires c.len-slots.ensures)

pub is_exact-requires-then-is_exact : goal.is_exact-requires-then-is_exact
is_exact-requires-then-is_exact c = rw c.debt_index.ensures (debts_index_fits c.requires c.len.ensures)

pub returns-then-is_exact : goal.returns-then-is_exact
returns-then-is_exact c =
    exact_by_debts c.requires c.len-slots.ensures (rw c.index.ensures at c.is_exact.ensures) c.if-is_exact.true c.len.ensures
    (rw c.debt_index.ensures at c.is_exact-then-is_exact.ensures)

pub returns-else-is_exact : goal.returns-else-is_exact
returns-else-is_exact c =
    c.if-is_exact.false ∙ not_exact_slots c.requires c.len-slots.ensures (rw c.index.ensures at c.is_exact.ensures) c.if-is_exact.false
