-- `ask` asks the store by the key's place.
use mathlib.Core.Path.{sym, ap, ◌∙◌}
use Rattle.shard.proofs.ModelLaws.{ask_with_slot, ask_without_slot}
use Rattle.store.specs.Memory.{shard_in, in_part}
use Rattle.store.proofs.LendingLaws.{found_place_below}
use Rattle.class_calls.proofs.ask.Goals as goal

pub position-requires : goal.position-requires
position-requires c = (c.requires.0, c.requires.1)

pub with_existing-requires : goal.with_existing-requires
with_existing-requires c = let found = sym c.position.ensures ∙ c.in-Some.is in
    let below = found_place_below c.requires.0 c.args.id.hash c.args.id.key _ c.requires.1 found in
    (c.requires.0, c.requires.1, rw c.policy-policy.ensures c.requires.2, rw c.policy-policy.ensures c.requires.3, below)

pub admit-requires : goal.admit-requires
admit-requires c = let pre' = c.requires in
    (pre'.0, pre'.1, rw c.policy-policy.ensures pre'.2, rw c.policy-policy.ensures pre'.3, pre'.4)

pub returns-in-Some : goal.returns-in-Some
returns-in-Some c = let a = c.args in
    let found = sym c.position.ensures ∙ c.in-Some.is in
    let asked = ask_with_slot c.policy-policy.result a.id a.request a.cost a.at (shard_in a.part a.ws.now) _ found in
    rw c.policy-policy.ensures at (c.with_existing.ensures ∙ ap (in_part a.part a.ws.now) asked)

pub returns-in-None : goal.returns-in-None
returns-in-None c = let a = c.args in
    let missed = sym c.position.ensures ∙ c.in-None.is in
    let asked = ask_without_slot c.policy-policy.result a.id a.request a.cost a.at (shard_in a.part a.ws.now) missed in
    rw c.policy-policy.ensures at (c.admit.ensures ∙ ap (in_part a.part a.ws.now) asked)
