-- `refund` gives a closed limiter's answer, unless the call is refused, and what `refund_open` answers where there is a rate.
use Rattle.std.proofs.Common.{Ok}
use mathlib.Core.Path.{refl, sym, ◌∙◌}
use Rattle.rules.proofs.RefusedLaws.{refused_or_told}
use Rattle.store.proofs.LendingLaws.{accepted_shape, numbered_by_refusals}
use Rattle.rules.specs.Asks.{undoes, refunds}
use Rattle.settings.specs.Settings.{shape_of}
use Rattle.store.specs.Memory.{buckets_at}
use Rattle.rules.proofs.KeyedLaws.{unchanged_is_told}
use Rattle.perkey.proofs.KnownLaws.{closed_refund}
use native.Mathlib.Omega.{arith}
use borrow.Author.Rules.{rules}
use Rattle.perkey.proofs.refund.Goals as goal

pub unless_refused-requires : goal.unless_refused-requires
unless_refused-requires c =
    λ none. accepted_shape c.args.settings (sym c.check.ensures ∙ sym (numbered_by_refusals _) ∙ none) (omega (arith, c.well_formed)) c.shape.ensures

pub refund_open-requires : goal.refund_open-requires
refund_open-requires c = c.in-Open.is

pub returns-in-Closed : goal.returns-in-Closed
returns-in-Closed c = let a = c.args in
    let stays = closed_refund a.settings a.id a.cost (buckets_at (shape_of a.settings) a.ws.now) _ c.in-Closed.is in
    unchanged_is_told a.settings a.id (undoes (refunds a.cost)) a.ws.now _ refl stays c.check.ensures c.shape.ensures
    refl (refused_or_told _ (Ok (tt {0})) _ _ _ c.unless_refused.ensures)

pub returns-in-Open : goal.returns-in-Open
returns-in-Open c = c.refund_open.ensures
