use Rattle.std.proofs.Common.{sym, ◌∙◌, arith}
use Rattle.desk_lines.specs.Lines.{most32}
use Rattle.lesson_lines.proofs.ReadingLaws.{number_within}
use Rattle.lesson_lines.proofs.calls.request.Goals as goal

pub overflow_cast-request : goal.overflow_cast-request
overflow_cast-request c = record {
  fits = omega (arith, number_within most32 c.args.line.now c.args.clock c.in_ok-key.at (sym c.next_number-3.ensures ∙ c.in_ok-cost.was));
}
