-- `count_over` tests the slot count, then the debt count.
use Rattle.converter_shards.proofs.ShardLaws.{over_by_slots, over_by_debts}
use Rattle.converter_shards.proofs.count_over.Goals as goal

pub returns-then-cap-slot_count : goal.returns-then-cap-slot_count
returns-then-cap-slot_count c = over_by_slots _ _ c.slot_count.ensures c.if-cap-slot_count.true

pub returns-else-cap-slot_count : goal.returns-else-cap-slot_count
returns-else-cap-slot_count c = over_by_debts _ _ c.slot_count.ensures c.if-cap-slot_count.false c.debt_count.ensures
