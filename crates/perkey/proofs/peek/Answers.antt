-- `peek` gives a closed limiter's answer, unless the call is refused, and what `peek_open` answers where there is a rate.
use mathlib.Core.Path.{sym, ◌∙◌, refl}
use Rattle.rules.proofs.RefusedLaws.{refused_or_told}
use Rattle.store.proofs.LendingLaws.{accepted_shape, numbered_by_refusals}
use Rattle.rules.specs.Asks.{looks, peeks}
use Rattle.settings.specs.Settings.{shape_of}
use Rattle.store.specs.Memory.{buckets_at}
use Rattle.rules.proofs.KeyedLaws.{unchanged_is_told}
use Rattle.perkey.proofs.PeekLaws.{closed_peek}
use native.Mathlib.Omega.{arith}
use borrow.Author.Rules.{rules}
use Rattle.perkey.proofs.peek.Goals as goal

pub unless_refused-requires : goal.unless_refused-requires
unless_refused-requires c =
    λ none. accepted_shape c.args.settings (sym c.check.ensures ∙ sym (numbered_by_refusals _) ∙ none) (omega (arith, c.well_formed)) c.shape.ensures

pub peek_open-requires : goal.peek_open-requires
peek_open-requires c = c.in-Open.is

pub returns-in-Closed : goal.returns-in-Closed
returns-in-Closed c = let a = c.args in
    let stays = closed_peek a.settings a.id a.at a.cost (buckets_at (shape_of a.settings) a.ws.now) _
    c.in-Closed.is c.closed.ensures in
    unchanged_is_told a.settings a.id (looks (peeks a.at a.cost)) a.ws.now _ refl stays c.check.ensures c.shape.ensures
    c.check_moment.ensures (refused_or_told _ _ _ _ _ c.unless_refused.ensures)

pub returns-in-Open : goal.returns-in-Open
returns-in-Open c = c.peek_open.ensures
