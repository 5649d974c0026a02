-- `fields::end` is the kit's search for a space.
use Rattle.desk_lines.proofs.FieldLaws.{found_from}
use Rattle.desk_lines.specs.Fields.{space}
use Rattle.desk_lines.proofs.fields.end.Goals as goal

pub returns : goal.returns
returns c = found_from space c.args.line.now c.args.from c.find.ensures.first
