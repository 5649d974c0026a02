use Rattle.std.proofs.Common.{sym, ◌∙◌}
use Rattle.lesson_lines.specs.Lesson.{taken_at}
use borrow.Author.Tests.{eq-eqb, ne_eqb}
use native.Mathlib.Omega.{arith}
use Rattle.lesson_lines.proofs.words.number_at.Goals as goal

pub returns-then-from-end : goal.returns-then-from-end
unfolding taken_at
returns-then-from-end c = rw (eq-eqb _ _ c.if-from-end.true)

pub slice_bounds-value_of-end : goal.slice_bounds-value_of-end
slice_bounds-value_of-end c = c.requires.1 (omega (arith, c.requires.0, c.if-from-end.false))

pub returns-in-Ok : goal.returns-in-Ok
unfolding taken_at
returns-in-Ok c = rw (ne_eqb _ _ c.if-from-end.false, sym c.value_of.ensures ∙ c.in-Ok.is)

pub returns-in-Err : goal.returns-in-Err
unfolding taken_at
returns-in-Err c = rw (ne_eqb _ _ c.if-from-end.false, sym c.value_of.ensures ∙ c.in-Err.is)
