-- `twins_by_lookup` looks up each slot, then each debt. With exact indexes an item strays where it has a twin.
use Rattle.converter_shards.proofs.PresentLaws.{slots_index_fits, debts_index_fits, slots_stray, debts_stray}
use Rattle.converter_shards.proofs.ShardLaws.{twins_slots, twins_debts}
use mathlib.Core.Path.{◌∙◌}
use Rattle.converter_shards.proofs.twins_by_lookup.Goals as goal

pub any_strays-requires : goal.any_strays-requires
any_strays-requires c = rw c.index.ensures (slots_index_fits c.requires.0 c.len-slots.ensures)

pub any_strays-requires-else-any_strays : goal.any_strays-requires-else-any_strays
any_strays-requires-else-any_strays c = rw c.debt_index.ensures (debts_index_fits c.requires.0 c.len.ensures)

pub returns-then-any_strays : goal.returns-then-any_strays
returns-then-any_strays c =
    c.if-any_strays.true
    ∙ twins_slots _ ((rw c.index.ensures at c.any_strays.ensures) ∙ slots_stray c.requires.0 c.requires.1 c.len-slots.ensures) c.if-any_strays.true

pub returns-else-any_strays : goal.returns-else-any_strays
returns-else-any_strays c =
    twins_debts _ ((rw c.index.ensures at c.any_strays.ensures) ∙ slots_stray c.requires.0 c.requires.1 c.len-slots.ensures) c.if-any_strays.false
    ((rw c.debt_index.ensures at c.any_strays-else-any_strays.ensures) ∙ debts_stray c.requires.0 c.requires.1 c.len.ensures)
