-- `remove` answers the refusal, else whether the store knew the key in its shard.
use Rattle.std.proofs.Common.{Ok}
use Rattle.store.proofs.LendingLaws.{given_unless}
use Rattle.rules.specs.Asks.{Ask, undoes, removes}
use Rattle.rules.proofs.KeyedLaws.{unlent_is_told, lent_may_be_asked, lent_is_counted, lent_is_told}
use Rattle.perkey.proofs.KnownLaws.{key_is_told}
use mathlib.Core.Path.{refl}
use borrow.Author.Rules.{rules}
use Rattle.perkey.proofs.remove.Goals as goal

-- What is asked; where the call began, as seen once `lend_for` has answered.
abbrev ask : Ask
ask = undoes removes

pub remove-requires : goal.remove-requires
remove-requires c = let a = c.args in
    let lent = lent_may_be_asked a.settings a.id ask a.ws.now (given_unless _ (Ok (tt {0})) _ _ c.lend_for.ensures) c.in-Ok.is in
    let counted = lent_is_counted a.settings a.id ask a.ws.now (given_unless _ (Ok (tt {0})) _ _ c.lend_for.ensures) c.in-Ok.is in
    (lent.0, lent.1, counted)

pub returns-in-Err : goal.returns-in-Err
returns-in-Err c = let a = c.args in
    rw c.into.ensures (unlent_is_told a.settings a.id ask a.ws.now (given_unless _ (Ok (tt {0})) _ _ c.lend_for.ensures) c.in-Err.is)

pub returns-in-Ok : goal.returns-in-Ok
returns-in-Ok c = let a = c.args in
    let removed = key_is_told c.remove.ensures c.known_reply.ensures in
    lent_is_told a.settings a.id ask a.ws.now (given_unless _ (Ok (tt {0})) _ _ c.lend_for.ensures) c.in-Ok.is refl removed
