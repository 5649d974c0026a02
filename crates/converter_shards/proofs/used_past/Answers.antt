-- `used_past` looks at the words past the slot count, then at those past the debt count.
use mathlib.Core.Path.{◌∙◌}
use native.Mathlib.Omega.{arith}
use Rattle.converter_shards.specs.Layout01.{slot_words01}
use Rattle.converter_shards.proofs.ShardLaws.{slots_within, debts_within, slots_past, debts_past, past_slots, past_debts}
use Rattle.converter_shards.proofs.used_past.Goals as goal

pub rows_past_used-requires : goal.rows_past_used-requires
rows_past_used-requires c = rw c.slot_rows-slots.ensures (omega (arith, c.requires.size), slots_within c.requires c.slot_count.ensures)

pub returns-then-rows_past_used : goal.returns-then-rows_past_used
returns-then-rows_past_used c = c.if-rows_past_used.true ∙ past_slots slot_words01 _ ((rw c.slot_rows-slots.ensures at c.rows_past_used.ensures)
    ∙ slots_past c.requires c.slot_count.ensures) c.if-rows_past_used.true

pub rows_past_used-requires-else-rows_past_used : goal.rows_past_used-requires-else-rows_past_used
rows_past_used-requires-else-rows_past_used c = rw c.debt_rows-debts.ensures (omega (arith, c.requires.size), debts_within c.requires c.debt_count.ensures)

pub returns-else-rows_past_used : goal.returns-else-rows_past_used
returns-else-rows_past_used c = past_debts slot_words01 _
    ((rw c.slot_rows-slots.ensures at c.rows_past_used.ensures) ∙ slots_past c.requires c.slot_count.ensures)
    c.if-rows_past_used.false
    ((rw c.debt_rows-debts.ensures at c.rows_past_used-else-rows_past_used.ensures) ∙ debts_past c.requires c.debt_count.ensures)
