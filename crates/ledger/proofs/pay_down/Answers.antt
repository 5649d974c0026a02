-- `pay_down` goes by the place that `position` gives, as its definition does; what is taken off is the product of its definition, held to 64 bits.
use Prim.Native.Nat.{◌<◌}
use mathlib.Core.Path.{◌≡◌}
use lib.ListN.{length}
use Rattle.ledger.specs.Layout.{ledger_words}
use Rattle.ledger.proofs.ModelLaws.{paid_where, found_below}
use Rattle.ledger.proofs.pay_down.Goals as goal

-- The words are as many as a ledger has, and the place found stands below the cap.
held : (c : goal.After-saturating_mul-credit) → let a = c.args in (length a.ws.now ≡ ledger_words a.cap) × (c.in-Some.pos < a.cap)
held c = let intact = c.requires.0 in (intact.size, found_below _ intact c.position.ensures c.in-Some.is)

-- The words are as many as a ledger has, and the place found stands below the cap.
held_2 : (c : goal.After-put-arg-1) → let a = c.args in (length a.ws.now ≡ ledger_words a.cap) × (c.in-Some.pos < a.cap)
held_2 c = let intact = c.requires.0 in (intact.size, found_below _ intact c.position.ensures c.in-Some.is)

pub load-held-requires : goal.load-held-requires
load-held-requires c = held c

pub put-requires : goal.put-requires
put-requires c = held_2 c

pub returns : goal.returns
returns c = let paid = paid_where _ _ c.position.ensures c.in-Some.is _ _ in
    rw (c.put.ensures, c.saturating_sub.ensures, c.load-held.ensures, c.saturating_mul-credit.ensures) paid

pub returns-in_default : goal.returns-in_default
returns-in_default c = paid_where _ _ c.position.ensures c.in_default.is _ _
