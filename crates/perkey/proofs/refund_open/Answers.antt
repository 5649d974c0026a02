-- `refund_open` answers the refusal, else what `give_back` answers.
use Rattle.std.proofs.Common.{Ok}
use Rattle.store.proofs.LendingLaws.{given_unless}
use Rattle.settings.proofs.RateLaws.{accepted_rate}
use Rattle.rules.specs.Asks.{Ask, undoes, refunds}
use Rattle.rules.proofs.KeyedLaws.{unlent_is_told, lent_may_be_asked, lent_limit_accepted, lent_is_told}
use Rattle.perkey.proofs.KnownLaws.{refund_by_limit}
use mathlib.Core.Path.{refl}
use borrow.Author.Rules.{rules}
use Rattle.perkey.proofs.refund_open.Goals as goal

-- What is asked; where the call began, as seen once `lend_for` has answered.
abbrev ask : goal.After-give_back-arg-1 → Ask
ask c = undoes (refunds c.args.cost)

-- What is asked; where the call began, as seen once `lend_for` has answered.
abbrev ask_2 : goal.After-into → Ask
ask_2 c = undoes (refunds c.args.cost)

-- What is asked; where the call began, as seen once `lend_for` has answered.
abbrev ask_3 : goal.After-slice_known-in-Ok-1 → Ask
ask_3 c = undoes (refunds c.args.cost)

pub give_back-requires : goal.give_back-requires
give_back-requires c = let a = c.args in
    let found = c.in-Ok.is in
    let may = lent_may_be_asked a.settings a.id (ask c) a.ws.now (given_unless _ (Ok (tt {0})) _ _ c.lend_for.ensures) found in
    let limit = lent_limit_accepted a.settings a.id (ask c) a.ws.now (given_unless _ (Ok (tt {0})) _ _ c.lend_for.ensures) found in
    (may.0, may.1, accepted_rate _ (rw c.requires at limit))

pub returns-in-Err : goal.returns-in-Err
returns-in-Err c = let a = c.args in
    rw c.into.ensures (unlent_is_told a.settings a.id (ask_2 c) a.ws.now (given_unless _ (Ok (tt {0})) _ _ c.lend_for.ensures) c.in-Err.is)

pub returns-in-Ok : goal.returns-in-Ok
returns-in-Ok c = let a = c.args in
    lent_is_told a.settings a.id (ask_3 c) a.ws.now (given_unless _ (Ok (tt {0})) _ _ c.lend_for.ensures) c.in-Ok.is refl
    (refund_by_limit a.settings a.id a.cost c.in-Ok.part a.ws.now c.requires c.give_back.ensures)
