-- `class_try` tells the refusal, else what `pass` tells.
use native.Mathlib.Omega.{arith}
use mathlib.Core.Path.{sym, ap, ◌∙◌}
use Rattle.store.proofs.LendingLaws.{given_unless}
use Rattle.settings.specs.Refusal.{numbered}
use Rattle.settings.proofs.RefusalLaws.{has_a_number}
use Rattle.class_calls.proofs.RefusedTries.{settings_refuse_try, try_has_shape, unlent_try_is_told, lent_try_passes}
use Rattle.class_calls.proofs.class_try.Goals as goal

pub returns-in-Err : goal.returns-in-Err
returns-in-Err c = let a = c.args in
    let told = rw c.in-Err.is at c.check.ensures in
    rw c.into.ensures (settings_refuse_try a.settings a.table.now a.at a.id a.class a.cost a.ws.now told (has_a_number c.in-Err.refusal))

pub lend-requires : goal.lend-requires
lend-requires c = let a = c.args in
    try_has_shape a.settings a.table.now a.at a.id a.class a.cost a.ws.now (sym c.check.ensures ∙ ap numbered c.in_default.is) c.shape.ensures
    c.count.ensures c.with_classes-shape.ensures (omega (arith, c.well_formed))

pub pass-requires : goal.pass-requires
pass-requires c = let a = c.args in
    lent_try_passes a.settings a.table.now a.at a.id a.class a.cost a.ws.now (sym c.check.ensures ∙ ap numbered c.in_default.is) c.shape.ensures
    c.count.ensures c.with_classes-shape.ensures c.check_further.ensures (given_unless _ _ _ _ c.lend.ensures) c.in-Ok.is

pub returns-in-Err-lend : goal.returns-in-Err-lend
returns-in-Err-lend c = let a = c.args in
    let told = unlent_try_is_told a.settings a.table.now a.at a.id a.class a.cost a.ws.now (sym c.check.ensures ∙ ap numbered c.in_default.is) c.shape.ensures
    c.count.ensures c.with_classes-shape.ensures c.check_further.ensures (given_unless _ _ _ _ c.lend.ensures) c.in-Err-lend.is in
    rw c.into-in-Err-lend.ensures told
