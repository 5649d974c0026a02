-- `Fields::finish` goes by the place: past the end of the line.
use mathlib.Core.Path.{◌∙◌}
use Rattle.desk_lines.proofs.ReadingLaws.{told_by_test, finished_by_place}
use Rattle.desk_lines.proofs.fields.Fields.finish.Goals as goal

pub returns : goal.returns
returns c = rw c.then_some.ensures (told_by_test _ ∙ finished_by_place c.self.inside.line.now c.self.inside.at c.self.view_is)
