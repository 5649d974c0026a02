-- `decide` goes by the cost, as the rule does, and else asks the store in the key's shard, by the key's place; a new key is left.
use mathlib.Core.Path.{ap}
use Rattle.bucket.specs.declared.Due.{Due}
use Rattle.settings.specs.declared.decision.Decision.TheVariants.{Acquired}
use Rattle.rules.specs.declared.Reply.TheVariants.{Tried}
use Rattle.bucket.specs.declared.Request.{Request}
use Rattle.bucket.specs.declared.Request.TheVariants.{Acquire}
use Rattle.rules.specs.Asks.{requests}
use Rattle.rules.proofs.KeyedLaws.{ask_not_refused}
use Rattle.requests.proofs.RequestLaws.{Asking, place_may_be_asked, known_may_be_asked, known_is_told}
use Rattle.requests.proofs.AttemptLaws.{too_much_is_answered, nothing_is_answered, known_is_answered, new_is_left}
use borrow.Author.Rules.{rules}
use Rattle.requests.proofs.decide.Goals as goal

-- What is asked for.
abbrev request : goal.Then-capacity-cost → Request
request c = Acquire

-- What is asked for.
abbrev request_2 : goal.After-due_now → Request
request_2 c = Acquire

-- What is asked for.
abbrev request_3 : goal.After-try_reply → Request
request_3 c = Acquire

-- What is asked for.
abbrev request_4 : goal.In-None → Request
request_4 c = Acquire

-- What is asked for.
abbrev request_5 : goal.Else-cost-eq0 → Request
request_5 c = Acquire

-- What is asked for.
abbrev request_6 : goal.After-policy → Request
request_6 c = Acquire

asks : (c : goal.Else-cost-eq0) → let a = c.args in Asking a.settings a.id a.cost a.ws.now a.rate a.part
asks c = let a = c.args in
    let pre' = c.requires in
    let within = rw c.capacity.ensures at c.if-capacity-cost.false in
    let accepted = (ask_not_refused a.settings a.id (requests (request_5 c) a.at a.cost) a.ws.now pre'.0).0 in
    record { accepted = accepted; is_part = pre'.1; is_limit = pre'.2; within = within; some = c.if-cost-eq0.false }

asks_2 : (c : goal.After-policy) → let a = c.args in Asking a.settings a.id a.cost a.ws.now a.rate a.part
asks_2 c = let a = c.args in
    let pre' = c.requires in
    let within = rw c.capacity.ensures at c.if-capacity-cost.false in
    let accepted = (ask_not_refused a.settings a.id (requests (request_6 c) a.at a.cost) a.ws.now pre'.0).0 in
    record { accepted = accepted; is_part = pre'.1; is_limit = pre'.2; within = within; some = c.if-cost-eq0.false }

asks_3 : (c : goal.After-try_reply) → let a = c.args in Asking a.settings a.id a.cost a.ws.now a.rate a.part
asks_3 c = let a = c.args in
    let pre' = c.requires in
    let within = rw c.capacity.ensures at c.if-capacity-cost.false in
    let accepted = (ask_not_refused a.settings a.id (requests (request_3 c) a.at a.cost) a.ws.now pre'.0).0 in
    record { accepted = accepted; is_part = pre'.1; is_limit = pre'.2; within = within; some = c.if-cost-eq0.false }

asks_4 : (c : goal.In-None) → let a = c.args in Asking a.settings a.id a.cost a.ws.now a.rate a.part
asks_4 c = let a = c.args in
    let pre' = c.requires in
    let within = rw c.capacity.ensures at c.if-capacity-cost.false in
    let accepted = (ask_not_refused a.settings a.id (requests (request_4 c) a.at a.cost) a.ws.now pre'.0).0 in
    record { accepted = accepted; is_part = pre'.1; is_limit = pre'.2; within = within; some = c.if-cost-eq0.false }

pub returns-then-capacity-cost : goal.returns-then-capacity-cost
returns-then-capacity-cost c = let a = c.args in
    let more = rw c.capacity.ensures at c.if-capacity-cost.true in
    too_much_is_answered (request c) a.settings a.at a.id a.cost a.ws.now c.requires.2 c.requires.0 more

pub returns-then-cost-eq0 : goal.returns-then-cost-eq0
returns-then-cost-eq0 c = let a = c.args in
    let within = rw c.capacity.ensures at c.if-capacity-cost.false in
    let told = ap (λ (due : Due). Tried (Acquired due)) c.due_now.ensures in
    nothing_is_answered (request_2 c) a.settings a.at a.id a.cost a.ws.now c.requires.2 c.requires.0 within c.if-cost-eq0.true told

pub position-requires : goal.position-requires
position-requires c = place_may_be_asked (asks c)

pub with_existing-decision-requires : goal.with_existing-decision-requires
with_existing-decision-requires c = known_may_be_asked (asks_2 c) c.policy.ensures c.position.ensures _ c.in-Some.is

pub returns-in-Some : goal.returns-in-Some
returns-in-Some c = let r = request_3 c in
    let found' = c.in-Some.is in
    let at' = c.args.at in
    let known = known_is_told (asks_3 c) c.policy.ensures c.position.ensures r at' c.try_reply.ensures in
    known_is_answered r at' (asks_3 c) c.requires.0 c.position.ensures _ found' (known _ found' c.with_existing-decision.ensures)

pub returns-in-None : goal.returns-in-None
returns-in-None c = new_is_left (request_4 c) c.args.at (asks_4 c) c.requires.0 c.position.ensures c.in-None.is
