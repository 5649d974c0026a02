-- `count_over_now` compares the slot count with the cap, then the debt count.
use Rattle.converter_shards.proofs.ShardLaws.{over_by_slots, over_by_debts}
use Rattle.converter_shards.proofs.count_over_now.Goals as goal

pub returns-then-cap-len : goal.returns-then-cap-len
returns-then-cap-len c = over_by_slots _ _ c.len.ensures c.if-cap-len.true

pub returns-else-cap-len : goal.returns-else-cap-len
returns-else-cap-len c = over_by_debts _ _ c.len.ensures c.if-cap-len.false c.len-else-cap-len.ensures
