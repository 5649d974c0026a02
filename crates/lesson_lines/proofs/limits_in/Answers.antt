use Rattle.std.proofs.Common.{sym, ◌∙◌, arith}
use Rattle.desk_lines.specs.Lines.{most32}
use Rattle.lesson_lines.proofs.ReadingLaws.{number_within}
use Rattle.lesson_lines.proofs.limits_in.Goals as goal

pub overflow_cast-limits : goal.overflow_cast-limits
overflow_cast-limits c = record {
  fits = omega (arith, number_within most32 c.args.line.now 0 c.args.at (sym c.next_number.ensures ∙ c.in_ok-amount.was));
}

pub overflow_cast-limits-2 : goal.overflow_cast-limits-2
overflow_cast-limits-2 c = record {
  fits = omega (arith, number_within most32 c.args.line.now 0 c.in_ok-period.at (sym c.next_number-3.ensures ∙ c.in_ok-burst.was));
}

pub overflow_cast-limits-3 : goal.overflow_cast-limits-3
overflow_cast-limits-3 c = record {
  fits = omega (arith, number_within most32 c.args.line.now 0 c.in_ok-burst.at (sym c.next_number-4.ensures ∙ c.in_ok-initial.was));
}
