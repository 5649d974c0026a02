-- `remove` tells the number of its address, else what the limiter tells a removal with the identity of the address.
use mathlib.Core.Path.{sym, ◌∙◌}
use Rattle.modems.proofs.AddressLaws.{checked_number_is_told, checked_call_is_made, checked_accepts}
use borrow.Author.Rules.{rules}
use Rattle.modems.proofs.remove.Goals as goal

pub returns-in-Err : goal.returns-in-Err
returns-in-Err c = let a = c.args in
    rw c.into.ensures (checked_number_is_told a.address.now a.ws.now (sym c.in-Err.is ∙ c.check_address.ensures) _)

pub identity-requires : goal.identity-requires
identity-requires c = checked_accepts _ (sym c.in_default.is ∙ c.check_address.ensures)

pub returns : goal.returns
returns c = let a = c.args in
    checked_call_is_made a.address.now a.ws.now (sym c.in_default.is ∙ c.check_address.ensures) (rw c.identity.ensures at c.remove.ensures)
