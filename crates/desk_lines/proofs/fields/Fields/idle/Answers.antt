-- `Fields::idle` skips a dash, else takes a number.
use native.Mathlib.Omega.{arith}
use mathlib.Core.Path.{sym, ◌∙◌}
use Rattle.desk_lines.proofs.ReadingLaws.{dash_inside, idle_of_dash}
use Rattle.desk_lines.proofs.fields.Fields.idle.Goals as goal

pub overflow_add-self : goal.overflow_add-self
overflow_add-self c =
    record { fits = omega (arith, dash_inside c.self.inside.line.now c.self.inside.at c.self.view_is (sym c.is_dash.ensures ∙ c.if-is_dash.true)) }

pub returns-then-is_dash : goal.returns-then-is_dash
returns-then-is_dash c = idle_of_dash c.self.inside.line.now c.self.inside.at c.self.view_is (sym c.is_dash.ensures ∙ c.if-is_dash.true)
