-- From one place of the run back to another.
use Rattle.rows.proofs.OutcomeLaws.{answer_is}
use Rattle.desk_lines.specs.Fields.{space}
use Rattle.desk_lines.specs.Printed.{printed_field}
use Rattle.desk_lines.proofs.PrintLaws.{written_after, field_short}
use mathlib.Core.List.{◌++◌}
use native.Mathlib.Omega.{arith}
use Rattle.lesson_writer.proofs.put_four.Goals as goal

pub field-at-requires-2 : goal.field-at-requires-2
field-at-requires-2 c = let field' = c.field-at in
    omega (
      arith,
      answer_is field'.ensures,
      field_short c.args.a space,
      field'.auto.out,
      c.requires,
    )

pub field-at-requires-3 : goal.field-at-requires-3
field-at-requires-3 c = let field' = c.field-at in
    let args' = c.args in
    let field2' = c.field-at-2 in
    omega (
      arith,
      answer_is field'.ensures,
      field_short args'.a space,
      field'.auto.out,
      answer_is field2'.ensures,
      field_short args'.b space,
      field2'.auto.out,
      c.requires,
    )

pub field-requires : goal.field-requires
field-requires c = let field' = c.field-at in
    let args' = c.args in
    let field2' = c.field-at-2 in
    let field3' = c.field-at-3 in
    omega (
      arith,
      answer_is field'.ensures,
      field_short args'.a space,
      field'.auto.out,
      answer_is field2'.ensures,
      field_short args'.b
          space,
      field2'.auto.out,
      answer_is field3'.ensures,
      field_short args'.c space,
      field3'.auto.out,
      c.requires,
    )

pub returns : goal.returns
returns c = let args' = c.args in
    written_after (printed_field args'.a space) (printed_field args'.b space ++ (printed_field args'.c space ++ printed_field args'.d space))
    args'.at args'.out.now c.field-at.ensures (written_after
    (printed_field args'.b space) (printed_field args'.c space ++ printed_field args'.d space) _ _ c.field-at-2.ensures
    (written_after (printed_field args'.c space) (printed_field args'.d space) _ _ c.field-at-3.ensures c.field.ensures))
