-- `twins` looks at the slots, then at the debts.
use Rattle.converter_shards.proofs.ShardLaws.{slots_within, debts_within, slots_twinned, debts_twinned, twins_slots, twins_debts}
use lib.Dec.{lit<}
use mathlib.Core.Path.{◌∙◌}
use native.Mathlib.Omega.{arith}
use Rattle.converter_shards.proofs.twins.Goals as goal

pub has_twins-requires : goal.has_twins-requires
has_twins-requires c =
    rw c.slot_rows.ensures
    (record { inside = omega (arith, c.requires.size, slots_within c.requires c.slot_count-slots.ensures); within = lit< tt })

pub has_twins-requires-else-has_twins : goal.has_twins-requires-else-has_twins
has_twins-requires-else-has_twins c =
    rw c.debt_rows.ensures
    (record { inside = omega (arith, c.requires.size, debts_within c.requires c.debt_count.ensures); within = lit< tt })

pub returns-then-has_twins : goal.returns-then-has_twins
returns-then-has_twins c = let slots = c.slot_count-slots.ensures in
    c.if-has_twins.true
    ∙ twins_slots _ ((rw c.slot_rows.ensures at c.has_twins.ensures) ∙ slots_twinned _ _ _ (slots_within c.requires slots) slots) c.if-has_twins.true

pub returns-else-has_twins : goal.returns-else-has_twins
returns-else-has_twins c = let slots = c.slot_count-slots.ensures in
    let debts = c.debt_count.ensures in
    twins_debts _ ((rw c.slot_rows.ensures at c.has_twins.ensures) ∙ slots_twinned _ _ _ (slots_within c.requires slots) slots) c.if-has_twins.false
    ((rw c.debt_rows.ensures at c.has_twins-else-has_twins.ensures) ∙ debts_twinned _ _ _ (debts_within c.requires debts) debts)
