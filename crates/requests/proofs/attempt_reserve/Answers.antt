-- `attempt_reserve` tells nothing on a closed limiter, unless the call is refused, and comes to what `reserve_open` comes to where there is a rate.
use mathlib.Core.Path.{refl, sym, ◌∙◌}
use Rattle.rules.proofs.RefusedLaws.{refused_or_told}
use Rattle.bucket.specs.declared.Request.TheVariants.{Reserve}
use Rattle.store.proofs.LendingLaws.{accepted_shape, numbered_by_refusals}
use Rattle.requests.proofs.RequestLaws.{closed_request_is_told}
use Rattle.requests.proofs.AttemptLaws.{closed_is_answered}
use native.Mathlib.Omega.{arith}
use borrow.Author.Rules.{rules}
use Rattle.requests.proofs.attempt_reserve.Goals as goal

pub unless_refused-reply-requires : goal.unless_refused-reply-requires
unless_refused-reply-requires c =
    λ none. accepted_shape c.args.settings (sym c.check.ensures ∙ sym (numbered_by_refusals _) ∙ none) (omega (arith, c.well_formed)) c.shape.ensures

pub reserve_open-requires : goal.reserve_open-requires
reserve_open-requires c = c.in-Open.is

pub returns-in-Closed : goal.returns-in-Closed
returns-in-Closed c = let a = c.args in
    let ruled =
    closed_request_is_told (Reserve a.max_wait) a.settings a.at a.id a.cost a.ws.now c.in-Closed.is refl
    c.check.ensures c.shape.ensures c.check_reservation.ensures (refused_or_told _ _ _ _ _ c.unless_refused-reply.ensures) in
    closed_is_answered (Reserve a.max_wait) a.settings a.at a.id a.cost a.ws.now c.in-Closed.is ruled

pub returns-in-Open : goal.returns-in-Open
returns-in-Open c = c.reserve_open.ensures
