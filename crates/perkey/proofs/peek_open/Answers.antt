-- `peek_open` answers the refusal, else what `peek_bucket` answers.
use mathlib.Core.Path.{◌≡◌}
use Rattle.store.proofs.LendingLaws.{given_unless}
use Rattle.settings.proofs.RateLaws.{accepted_rate}
use Rattle.settings.specs.Refusal.{GivenUnless}
use Rattle.store.specs.Memory.{part_of}
use Rattle.rules.specs.Asks.{Look, peeks, looks}
use Rattle.rules.specs.Rules.{ask_refusal}
use Rattle.rules.proofs.KeyedLaws.{unlent_is_told, lent_may_be_asked, lent_limit_accepted, lent_look_is_told}
use Rattle.perkey.proofs.PeekLaws.{peek_by_limit}
use borrow.Author.Rules.{rules}
use Rattle.perkey.proofs.peek_open.Goals as goal

-- The look; where the call began, as seen once `lend_for` has answered; and what that answered.
abbrev look : goal.In-Ok → Look
look c = peeks c.args.at c.args.cost

-- The look; where the call began, as seen once `lend_for` has answered; and what that answered.
abbrev look_2 : goal.After-into → Look
look_2 c = peeks c.args.at c.args.cost

-- The look; where the call began, as seen once `lend_for` has answered; and what that answered.
abbrev look_3 : goal.After-peek_bucket → Look
look_3 c = peeks c.args.at c.args.cost

lent : (c : goal.In-Ok) → let a = c.args in
    GivenUnless (ask_refusal a.settings a.id (looks (look c)) a.ws.now) (part_of a.settings a.id.hash) c.lend_for.result
lent c = rw c.check_moment.ensures at (given_unless _ _ _ _ c.lend_for.ensures)

lent_2 : (c : goal.After-into) → let a = c.args in
    GivenUnless (ask_refusal a.settings a.id (looks (look_2 c)) a.ws.now) (part_of a.settings a.id.hash) c.lend_for.result
lent_2 c = rw c.check_moment.ensures at (given_unless _ _ _ _ c.lend_for.ensures)

lent_3 : (c : goal.After-peek_bucket) → let a = c.args in
    GivenUnless (ask_refusal a.settings a.id (looks (look_3 c)) a.ws.now) (part_of a.settings a.id.hash) c.lend_for.result
lent_3 c = rw c.check_moment.ensures at (given_unless _ _ _ _ c.lend_for.ensures)

pub peek_bucket-requires : goal.peek_bucket-requires
peek_bucket-requires c = let a = c.args in
    let found = c.in-Ok.is in
    let may = lent_may_be_asked a.settings a.id (looks (look c)) a.ws.now (lent c) found in
    let limit = lent_limit_accepted a.settings a.id (looks (look c)) a.ws.now (lent c) found in
    (may.0, may.1, accepted_rate _ (rw c.requires at limit))

pub returns-in-Err : goal.returns-in-Err
returns-in-Err c = let a = c.args in
    rw c.into.ensures (unlent_is_told a.settings a.id (looks (look_2 c)) a.ws.now (lent_2 c) c.in-Err.is)

pub returns-in-Ok : goal.returns-in-Ok
returns-in-Ok c = let a = c.args in
    let found = c.in-Ok.is in
    lent_look_is_told a.settings a.id (look_3 c) a.ws.now (lent_3 c) found
    (peek_by_limit a.settings a.at a.cost a.id _ c.requires c.peek_bucket.ensures)
