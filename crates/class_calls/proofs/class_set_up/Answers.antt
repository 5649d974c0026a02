-- `class_set_up` tells the refusal, else zeroes all words.
use mathlib.Core.Path.{sym, ap, ◌∙◌}
use Rattle.settings.specs.Refusal.{numbered}
use Rattle.settings.proofs.RefusalLaws.{has_a_number}
use Rattle.settings.proofs.SettingsLaws.{neither_refuses}
use Rattle.rules.specs.Asks.{with_table}
use Rattle.rules.specs.Rules.{set_up_in}
use Rattle.rules.proofs.RefusedLaws.{number_is_told, table_set_up_zeroes}
use Rattle.class_calls.proofs.class_set_up.Goals as goal

pub returns-in-Err : goal.returns-in-Err
unfolding set_up_in
returns-in-Err c = rw c.into.ensures (number_is_told _ _ _ (rw c.in-Err.is at c.check_set_up.ensures) (has_a_number c.in-Err.refusal))

pub returns : goal.returns
returns c =
    let a = c.args in
    let none = neither_refuses _ _ (sym c.check_set_up.ensures ∙ ap numbered c.in_default.is) in
    rw c.clear.ensures (table_set_up_zeroes (with_table a.table.now a.settings) a.table.now a.ws.now none.0 none.1)
