-- `print::line` writes three fields in a row.
use native.Mathlib.Omega.{arith}
use mathlib.Core.List.{◌++◌}
use Rattle.desk_lines.proofs.PrintLaws.{written_after, field_short}
use Rattle.desk_lines.specs.Printed.{line_feed, printed_field}
use Rattle.desk_lines.specs.Fields.{space}
use Rattle.rows.proofs.OutcomeLaws.{answer_is}
use Rattle.desk_lines.proofs.print.line.Goals as goal

pub field-third-requires : goal.field-third-requires
field-third-requires c = omega (arith, answer_is c.field-second.ensures, field_short c.args.number space, c.field-second.auto.out, c.requires)

pub field-requires : goal.field-requires
field-requires c = omega (
  arith,
  answer_is c.field-second.ensures,
  field_short c.args.number space,
  c.field-second.auto.out,
  answer_is c.field-third.ensures,
  field_short c.args.code space,
  c.field-third.auto.out,
  c.requires,
)

pub returns : goal.returns
returns c = let a = c.args in
    let code = printed_field a.code space in
    let wait = printed_field a.wait line_feed in
    written_after (printed_field a.number space) (code ++ wait) a.at a.out.now c.field-second.ensures
    (written_after code wait _ _ c.field-third.ensures c.field.ensures)
