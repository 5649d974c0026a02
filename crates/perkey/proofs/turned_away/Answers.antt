-- `turned_away` answers the refusal, else the count that the store finds in the key's shard.
use Rattle.std.proofs.Common.{Ok}
use mathlib.Core.Path.{ap}
use Rattle.store.proofs.LendingLaws.{given_unless}
use Rattle.rules.specs.declared.Reply.TheVariants.{Count}
use Rattle.rules.specs.Asks.{turn_aways, Ask, looks}
use Rattle.rules.proofs.KeyedLaws.{unlent_is_told, lent_may_be_asked, lent_look_is_told}
use borrow.Author.Rules.{rules}
use Rattle.perkey.proofs.turned_away.Goals as goal

-- What is asked; where the call began, as seen once `lend_for` has answered.
abbrev ask : Ask
ask = looks turn_aways

pub turned_away-requires : goal.turned_away-requires
turned_away-requires c = let a = c.args in
    lent_may_be_asked a.settings a.id ask a.ws.now (given_unless _ (Ok (tt {0})) _ _ c.lend_for.ensures) c.in-Ok.is

pub returns-in-Err : goal.returns-in-Err
returns-in-Err c = let a = c.args in
    rw c.into.ensures (unlent_is_told a.settings a.id ask a.ws.now (given_unless _ (Ok (tt {0})) _ _ c.lend_for.ensures) c.in-Err.is)

pub returns-in-Ok : goal.returns-in-Ok
returns-in-Ok c = let a = c.args in
    lent_look_is_told a.settings a.id turn_aways a.ws.now (given_unless _ (Ok (tt {0})) _ _ c.lend_for.ensures) c.in-Ok.is
    (ap Count c.turned_away.ensures)
