-- `reason_at` looks at the line, and then at its place.
use mathlib.Core.Path.{sym, ◌∙◌}
use Rattle.desk_reasons.proofs.WalkLaws.{fine_by_place, faulty_anywhere}
use Rattle.desk_reasons.proofs.reason_at.Goals as goal

pub returns-in-Some : goal.returns-in-Some
returns-in-Some c = faulty_anywhere c.args.first c.args.line.now (sym c.reason_of.ensures ∙ c.in-Some.is)

pub returns : goal.returns
returns c =
    fine_by_place c.args.first c.args.line.now (sym c.reason_of.ensures ∙ c.in_default.is) c.read.ensures (rw c.is_set_up.ensures at c.out_of_place.ensures)
