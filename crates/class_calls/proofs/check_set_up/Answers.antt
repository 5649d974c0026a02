-- `check_set_up` makes the two checks in turn; the first goes by the table's number of classes.
use Rattle.std.proofs.Common.{ℕ, ◌≡◌, List, length, ap, ◌∙◌, arith}
use Rattle.settings.specs.declared.Settings.{Settings}
use Rattle.settings.specs.Settings.{with_classes}
use Rattle.settings.proofs.RefusalLaws.{first_refuses, second_decides}
use Rattle.classes.specs.Layout.{classes_in}
use Rattle.classes.proofs.LayoutLaws.{class_count_lem}
use Rattle.store.specs.Refusals.{set_up_refusal}
use Rattle.rules.specs.Asks.{with_table}
use Rattle.class_calls.proofs.RefusedTries.{counted_classes_few}
use Rattle.class_calls.proofs.check_set_up.Goals as goal

-- The refusal is that of the settings with the table's number of classes.
refused : (s : Settings) (table ws : List ℕ) {count told : ℕ} → count ≡ length (classes_in table) → told ≡ set_up_refusal (with_classes count s) ws
    → told ≡ set_up_refusal (with_table table s) ws
refused s table ws counted is = is ∙ ap (λ (n : ℕ). set_up_refusal (with_classes n s) ws) (counted ∙ class_count_lem table)

pub check_set_up-requires : goal.check_set_up-requires
check_set_up-requires c = counted_classes_few c.args.table.now (omega (arith, c.well_formed)) c.count.ensures

pub returns-in_err-check_set_up : goal.returns-in_err-check_set_up
returns-in_err-check_set_up c = let a = c.args in
    first_refuses c.from_residual.result _ _ c.from_residual.ensures.1
    (refused a.settings a.table.now a.ws.now c.count.ensures c.in_err-check_set_up.ensures)

pub returns : goal.returns
returns c = let a = c.args in
    second_decides (refused a.settings a.table.now a.ws.now c.count.ensures c.in_ok-check_set_up.ensures) c.check_table.ensures
