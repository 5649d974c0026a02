-- `used_past_now` looks at the words past the slot count, then at those past the debt count, in the present layout.
use mathlib.Core.Path.{◌∙◌}
use native.Mathlib.Omega.{arith}
use Rattle.shard_map.specs.Layout.{slot_words}
use Rattle.converter_shards.proofs.ShardLaws.{past_slots, past_debts}
use Rattle.converter_shards.proofs.PresentLaws.{slots_within, debts_within, slots_past_now, debts_past_now}
use Rattle.converter_shards.proofs.used_past_now.Goals as goal

pub rows_past_used-requires : goal.rows_past_used-requires
rows_past_used-requires c = rw c.index-slots.ensures (omega (arith, c.requires.size), omega (arith, c.len.ensures, slots_within c.requires))

pub returns-then-rows_past_used : goal.returns-then-rows_past_used
returns-then-rows_past_used c = c.if-rows_past_used.true ∙ past_slots slot_words _ ((rw c.index-slots.ensures at c.rows_past_used.ensures)
    ∙ slots_past_now c.requires c.len.ensures) c.if-rows_past_used.true

pub rows_past_used-requires-else-rows_past_used : goal.rows_past_used-requires-else-rows_past_used
rows_past_used-requires-else-rows_past_used c = let debts = c.len-else-rows_past_used.ensures in
    rw c.debt_index-debts.ensures (omega (arith, c.requires.size), omega (arith, debts, debts_within c.requires))

pub returns-else-rows_past_used : goal.returns-else-rows_past_used
returns-else-rows_past_used c = let debts = c.len-else-rows_past_used.ensures in
    past_debts slot_words _ ((rw c.index-slots.ensures at c.rows_past_used.ensures) ∙ slots_past_now c.requires c.len.ensures) c.if-rows_past_used.false
    ((rw c.debt_index-debts.ensures at c.rows_past_used-else-rows_past_used.ensures) ∙ debts_past_now c.requires debts)
