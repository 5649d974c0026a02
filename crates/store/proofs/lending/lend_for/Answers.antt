-- `lend_for` lends nothing where the settings are refused, and else what `lend` lends in memory of their shape.
use mathlib.Core.Path.{◌≡◌, sym, ◌∙◌}
use Rattle.settings.proofs.RefusalLaws.{stands}
use Rattle.store.proofs.LendingLaws.{accepted_shape, lent_to_caller, refusal_lends_nothing}
use native.Mathlib.Omega.{arith}
use Rattle.store.proofs.lending.lend_for.Goals as goal

pub returns-in_err-check : goal.returns-in_err-check
returns-in_err-check g c =
    refusal_lends_nothing g.E.Numbered.number c.from_residual.result _ _ c.from_residual.ensures.1 (g.met.E.Numbered.keeps _)
    (stands _ _ (stands _ _ (stands _ _ c.in_err-check.ensures)))

pub lend-requires : goal.lend-requires
lend-requires g c = accepted_shape c.args.settings (sym c.in_ok-check.ensures) (omega (arith, c.well_formed)) c.shape.ensures

pub returns : goal.returns
returns g c = let a = c.args in
    lent_to_caller a.settings a.hash a.ws.now (sym c.in_ok-check.ensures) c.shape.ensures g.E.Numbered.number _ _ c.lend.ensures
