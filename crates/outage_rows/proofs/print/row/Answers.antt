-- `print::row` writes a number, and then three others.
use Rattle.outage_rows.proofs.PrintLaws.{row_written}
use Rattle.rows.proofs.OutcomeLaws.{answer_is}
use Rattle.desk_lines.proofs.PrintLaws.{field_short}
use Rattle.desk_lines.specs.Fields.{space}
use native.Mathlib.Omega.{arith}
use Rattle.outage_rows.proofs.print.row.Goals as goal

pub line-requires : goal.line-requires
line-requires c = let field' = c.field-second in
    omega (arith, answer_is field'.ensures, field_short c.args.number space, field'.auto.out, c.requires)

pub returns : goal.returns
returns c = row_written _ _ _ _ c.field-second.ensures c.line.ensures
