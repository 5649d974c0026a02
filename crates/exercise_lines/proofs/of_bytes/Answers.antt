-- `of_bytes` finds the two spaces, and reads the three parts.
use Rattle.desk_lines.proofs.FieldLaws.{found_from}
use Rattle.desk_lines.specs.Fields.{space}
use Rattle.exercise_lines.proofs.RepeatLaws.{no_spacing, no_call, of_all_parts}
use Rattle.exercise_lines.proofs.of_bytes.Goals as goal

pub returns-then-count_end-line : goal.returns-then-count_end-line
returns-then-count_end-line c =
    no_spacing _ (found_from space c.args.line.now 2 c.find-count_end.ensures.first) c.if-count_end-line.true

pub returns-then-spacing_end-line : goal.returns-then-spacing_end-line
returns-then-spacing_end-line c =
    let bytes = c.args.line.now in
    let count-ends = found_from space bytes 2 c.find-count_end.ensures.first in
    let spacing-ends = found_from space bytes _ c.find-spacing_end.ensures.first in
    no_call _ count-ends c.if-count_end-line.false spacing-ends c.if-spacing_end-line.true

pub returns : goal.returns
returns c =
    let bytes = c.args.line.now in
    let count-ends = found_from space bytes 2 c.find-count_end.ensures.first in
    let spacing-ends = found_from space bytes _ c.find-spacing_end.ensures.first in
    of_all_parts _ count-ends c.if-count_end-line.false spacing-ends c.if-spacing_end-line.false c.of_parts.ensures c.number-count.ensures
    c.number-spacing.ensures c.read.ensures
