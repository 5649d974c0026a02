-- `attempt_try` tells a closed limiter's answer, unless the call is refused, and comes to what `try_open` comes to where there is a rate.
use mathlib.Core.Path.{sym, ap, ◌∙◌}
use Rattle.rules.proofs.RefusedLaws.{refused_or_told}
use Rattle.bucket.specs.declared.Request.TheVariants.{Acquire}
use Rattle.store.proofs.LendingLaws.{accepted_shape, numbered_by_refusals}
use Rattle.settings.specs.declared.decision.Decision.{Decision}
use Rattle.rules.specs.declared.Reply.TheVariants.{Tried}
use Rattle.requests.proofs.RequestLaws.{closed_request_is_told}
use Rattle.requests.proofs.AttemptLaws.{closed_is_answered}
use native.Mathlib.Omega.{arith}
use borrow.Author.Rules.{rules}
use Rattle.requests.proofs.attempt_try.Goals as goal

pub unless_refused-reply-requires : goal.unless_refused-reply-requires
unless_refused-reply-requires c =
    λ none. accepted_shape c.args.settings (sym c.check.ensures ∙ sym (numbered_by_refusals _) ∙ none) (omega (arith, c.well_formed)) c.shape.ensures

pub try_open-requires : goal.try_open-requires
try_open-requires c = c.in-Open.is

pub returns-in-Closed : goal.returns-in-Closed
returns-in-Closed c = let a = c.args in
    let closed = ap (λ (d : Decision). Tried d) c.closed.ensures in
    let ruled =
    closed_request_is_told Acquire a.settings a.at a.id a.cost a.ws.now c.in-Closed.is closed
    c.check.ensures c.shape.ensures c.check_moment.ensures (refused_or_told _ _ _ _ _ c.unless_refused-reply.ensures) in
    closed_is_answered Acquire a.settings a.at a.id a.cost a.ws.now c.in-Closed.is ruled

pub returns-in-Open : goal.returns-in-Open
returns-in-Open c = c.try_open.ensures
