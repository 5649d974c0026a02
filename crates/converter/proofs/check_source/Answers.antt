-- `check_source` makes its passes over all shards in the order of the numbers.
use mathlib.Core.Path.{refl, sym, ◌∙◌}
use Rattle.converter.proofs.RefusalLaws.{damage_is_told, wrong_total_is_told, twins_are_told, past_is_told, nothing_is_told}
use Rattle.converter.proofs.check_source.Goals as goal

pub any_refused-requires : goal.any_refused-requires
any_refused-requires c = (c.requires, λ not-5. absurd (not-5 refl))

pub returns-then-any_refused : goal.returns-then-any_refused
returns-then-any_refused c = damage_is_told c.args.layout c.args.shards c.args.cap c.args.ws.now c.any_refused.ensures c.if-any_refused.true

pub total_wrong-requires : goal.total_wrong-requires
total_wrong-requires c = record { in_shards = c.requires; whole = sym c.any_refused.ensures ∙ c.if-any_refused.false }

pub returns-then-total_wrong : goal.returns-then-total_wrong
returns-then-total_wrong c = wrong_total_is_told c.args.layout c.args.shards c.args.cap c.args.ws.now
    c.any_refused.ensures c.if-any_refused.false c.total_wrong.ensures c.if-total_wrong.true

pub any_refused-requires-2 : goal.any_refused-requires-2
any_refused-requires-2 c = (c.requires, λ not-5. sym c.any_refused.ensures ∙ c.if-any_refused.false)

pub returns-then-any_refused-2 : goal.returns-then-any_refused-2
returns-then-any_refused-2 c = twins_are_told c.args.layout c.args.shards c.args.cap c.args.ws.now
    c.any_refused.ensures c.if-any_refused.false c.total_wrong.ensures c.if-total_wrong.false
    c.any_refused-2.ensures c.if-any_refused-2.true

pub any_refused-requires-3 : goal.any_refused-requires-3
any_refused-requires-3 c = (
  c.requires,
  λ not-5. sym c.any_refused.ensures ∙ c.if-any_refused.false,
)

pub returns-then-any_refused-3 : goal.returns-then-any_refused-3
returns-then-any_refused-3 c = past_is_told c.args.layout c.args.shards c.args.cap c.args.ws.now
    c.any_refused.ensures c.if-any_refused.false c.total_wrong.ensures c.if-total_wrong.false
    c.any_refused-2.ensures c.if-any_refused-2.false c.any_refused-3.ensures c.if-any_refused-3.true

pub returns : goal.returns
returns c = nothing_is_told c.args.layout c.args.shards c.args.cap c.args.ws.now
    c.any_refused.ensures c.if-any_refused.false c.total_wrong.ensures c.if-total_wrong.false
    c.any_refused-2.ensures c.if-any_refused-2.false c.any_refused-3.ensures c.if-any_refused-3.false
