-- `forth` copies, and then adds the slots to their index and the debts to theirs.
use Rattle.converter_shards.proofs.ForthLaws.{slots_fits, debts_fits, after_debts}
use Rattle.converter_shards.proofs.forth.Goals as goal

pub add_items-requires : goal.add_items-requires
add_items-requires c = rw c.index.ensures (slots_fits c.requires.0 c.requires.1 c.carry_shard.ensures c.slot_count.ensures c.requires.2)

pub add_items-requires-2 : goal.add_items-requires-2
add_items-requires-2 c = rw c.debt_index.ensures (debts_fits c.requires.0 c.requires.1 c.carry_shard.ensures c.slot_count.ensures
    (rw c.index.ensures at c.add_items.ensures) c.debt_count.ensures c.requires.2)

pub returns : goal.returns
returns c = after_debts c.requires.0 c.requires.1 c.carry_shard.ensures c.slot_count.ensures (rw c.index.ensures at c.add_items.ensures) c.debt_count.ensures
    (rw c.debt_index.ensures at c.add_items-2.ensures)
