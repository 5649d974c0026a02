-- `reserve_open` leaves a reservation that is refused, and else comes to what `reserve_within` comes to.
use mathlib.Core.Path.{◌≡◌, sym, ◌∙◌}
use Rattle.bucket.specs.declared.Request.TheVariants.{Reserve}
use Rattle.settings.proofs.RefusalLaws.{err_is_refused, ok_is_accepted}
use Rattle.store.proofs.LendingLaws.{accepted_shape, lent_part, refused_number, given_unless}
use Rattle.requests.proofs.AttemptLaws.{request_lending, settings_refuse_request, refused_is_left}
use native.Mathlib.Omega.{arith}
use borrow.Author.Rules.{rules}
use Rattle.requests.proofs.reserve_open.Goals as goal

pub returns-then-is_err : goal.returns-then-is_err
returns-then-is_err c = let a = c.args in
    let some = err_is_refused _ (sym c.is_err.ensures.value ∙ c.if-is_err.true) in
    let told = settings_refuse_request (Reserve a.max_wait) a.settings a.at a.id a.ws.now c.check.ensures some in
    refused_is_left (Reserve a.max_wait) a.settings a.at a.id a.cost a.ws.now c.requires told some

pub lend-requires : goal.lend-requires
lend-requires c = let none = sym c.check.ensures ∙ ok_is_accepted _ (sym c.is_err.ensures.value ∙ c.if-is_err.false) in
    accepted_shape c.args.settings none (omega (arith, c.well_formed)) c.shape.ensures

pub reserve_within-requires : goal.reserve_within-requires
reserve_within-requires c = let a = c.args in
    let none = sym c.check.ensures ∙ ok_is_accepted _ (sym c.is_err.ensures.value ∙ c.if-is_err.false) in
    let lending = request_lending (Reserve a.max_wait) a.settings a.at a.id a.ws.now none c.shape.ensures c.check_reservation.ensures _
    (given_unless _ _ _ _ c.lend.ensures) in
    let lent = lent_part _ _ lending c.in-Ok.is in
    (lent.0, lent.1, c.requires)

pub returns-in-Err : goal.returns-in-Err
returns-in-Err c = let a = c.args in
    let none = sym c.check.ensures ∙ ok_is_accepted _ (sym c.is_err.ensures.value ∙ c.if-is_err.false) in
    let lending = request_lending (Reserve a.max_wait) a.settings a.at a.id a.ws.now none c.shape.ensures c.check_reservation.ensures _
    (given_unless _ _ _ _ c.lend.ensures) in
    let number = refused_number _ _ lending c.in-Err.is in
    refused_is_left (Reserve a.max_wait) a.settings a.at a.id a.cost a.ws.now c.requires number.0 number.1

pub returns-in-Ok : goal.returns-in-Ok
returns-in-Ok c = c.reserve_within.ensures
