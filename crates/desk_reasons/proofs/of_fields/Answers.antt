use Rattle.desk_reasons.proofs.WalkLaws.{line_ends, field_at_fault, field_is_fine}
use mathlib.Core.Path.{◌≡◌, refl, sym, ◌∙◌}
use native.Mathlib.Omega.{arith}
use Rattle.desk_lines.specs.Fields.{space, field_end}
use Rattle.desk_lines.proofs.FieldLaws.{found_from}
use Rattle.desk_reasons.proofs.of_fields.Goals as goal

-- The search stops where the field ends.
stops : (c : goal.After-of_field) → c.find-end.result ≡ field_end c.args.line.now c.loop-at.at
stops c = found_from space c.args.line.now c.loop-at.at c.find-end.ensures.first

-- The search stops where the field ends.
stops_2 : (c : goal.Else-not-accepts) → c.find-end.result ≡ field_end c.args.line.now c.loop-at.at
stops_2 c = found_from space c.args.line.now c.loop-at.at c.find-end.ensures.first

pub loop-at-init : goal.loop-at-init
loop-at-init c = (omega arith, omega arith, refl)

pub returns-then-not-accepts : goal.returns-then-not-accepts
returns-then-not-accepts c = let a = c.args in
    let loop' = c.loop-at in
    let wrong = sym c.accepts.ensures ∙ c.if-not-accepts.true in
    let is-kind = c.at-kind.ensures in
    field_at_fault a.line.now a.letter loop'.at loop'.i (omega arith) (stops c) is-kind wrong c.of_field.ensures ∙ loop'.invariant.2

pub loop-at-preserved : goal.loop-at-preserved
loop-at-preserved c = let a = c.args in
    let loop' = c.loop-at in
    let right = sym c.accepts.ensures ∙ c.if-not-accepts.false in
    let is-kind = c.at-kind.ensures in
    let next = field_is_fine a.line.now a.letter loop'.at loop'.i (omega arith) (stops_2 c) is-kind right in
    (omega (arith, stops_2 c), omega (arith, stops_2 c), next ∙ loop'.invariant.2)

pub returns : goal.returns
returns c = let a = c.args in
    let loop' = c.loop-at in
    c.at_end.ensures ∙ line_ends a.line.now a.letter loop'.at loop'.i c.at.ensures (omega arith) ∙ loop'.invariant.2
