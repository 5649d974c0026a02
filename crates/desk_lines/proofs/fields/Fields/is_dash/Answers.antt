-- `Fields::is_dash` looks at the byte at the place and at where the field ends.
use mathlib.Core.Bool.{true≢false}
use mathlib.Core.Path.{sym, ◌∙◌}
use Rattle.desk_lines.proofs.ReadingLaws.{end_has_no_dash, other_byte_is_no_dash, dash_by_end}
use borrow.Author.Tests.{eqb-true, eqb-false, le-ltb}
use Rattle.desk_lines.proofs.fields.Fields.is_dash.Goals.{then-at-line, else-at-line}
use Rattle.desk_lines.proofs.fields.Fields.is_dash.Goals as goal

pub returns-then-line-at-eq-DASH : goal.returns-then-line-at-eq-DASH
returns-then-line-at-eq-DASH c = elim c.if-at-line.branch [
  | then-at-line w ↦ rw c.end.ensures
      (dash_by_end c.self.inside.line.now c.self.inside.at c.self.view_is w.if-at-line.true (eqb-true _ _ (sym w.value-is ∙ c.if-line-at-eq-DASH.true)))
  | else-at-line w ↦ absurd (true≢false (sym c.if-line-at-eq-DASH.true ∙ w.value-is ∙ le-ltb _ _ w.if-at-line.false))
]

pub returns-else-line-at-eq-DASH : goal.returns-else-line-at-eq-DASH
returns-else-line-at-eq-DASH c = c.if-line-at-eq-DASH.false ∙ elim c.if-at-line.branch [
  | then-at-line w ↦
      other_byte_is_no_dash c.self.inside.line.now c.self.inside.at c.self.view_is w.if-at-line.true
      (eqb-false _ _ (sym w.value-is ∙ c.if-line-at-eq-DASH.false))
  | else-at-line w ↦ end_has_no_dash c.self.inside.line.now c.self.inside.at c.self.view_is w.if-at-line.false
]
