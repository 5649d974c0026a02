-- From one place of the run back to another.
use Rattle.lesson_writer.proofs.WritingLaws.{idle_short}
use Rattle.lesson_writer.specs.Lines.{idle_printed}
use Rattle.rows.proofs.OutcomeLaws.{answer_is}
use Rattle.desk_lines.specs.Fields.{space}
use Rattle.desk_lines.specs.Printed.{printed_field, line_feed}
use Rattle.desk_lines.proofs.PrintLaws.{written_after, field_short}
use mathlib.Core.List.{◌++◌}
use native.Mathlib.Omega.{arith}
use Rattle.lesson_writer.proofs.put_room.Goals as goal

pub field-at-requires-2 : goal.field-at-requires-2
field-at-requires-2 c = let field' = c.field-at in
    omega (
      arith,
      answer_is field'.ensures,
      field_short c.args.modems space,
      field'.auto.out,
      c.requires,
    )

pub put_idle-at-requires : goal.put_idle-at-requires
put_idle-at-requires c = let field' = c.field-at in
    let args' = c.args in
    let field2' = c.field-at-2 in
    omega (
      arith,
      answer_is field'.ensures,
      field_short args'.modems space,
      field'.auto.out,
      answer_is field2'.ensures,
      field_short args'.shards space,
      field2'.auto.out,
      c.requires,
    )

pub field-requires : goal.field-requires
field-requires c = let field' = c.field-at in
    let args' = c.args in
    let field2' = c.field-at-2 in
    let put-idle' = c.put_idle-at in
    omega (
      arith,
      answer_is field'.ensures,
      field_short args'.modems space,
      field'.auto.out,
      answer_is field2'.ensures,
      field_short args'.shards space,
      field2'.auto.out,
      answer_is put-idle'.ensures,
      idle_short args'.idle,
      put-idle'.auto.out,
      c.requires,
    )

pub returns : goal.returns
returns c = let args' = c.args in
    written_after (printed_field args'.modems space) (printed_field args'.shards space ++ (idle_printed args'.idle ++ printed_field args'.rule
    line_feed)) args'.at args'.out.now c.field-at.ensures
    (written_after (printed_field args'.shards space) (idle_printed args'.idle ++ printed_field args'.rule line_feed) _ _
    c.field-at-2.ensures (written_after (idle_printed args'.idle) (printed_field args'.rule
    line_feed) _ _ c.put_idle-at.ensures c.field.ensures))
