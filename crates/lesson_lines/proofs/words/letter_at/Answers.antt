use Rattle.lesson_lines.proofs.ReadingLaws.{no_letter_by_size, one_letter_by_size, more_by_size}
use native.Mathlib.Omega.{arith}
use Rattle.lesson_lines.proofs.words.letter_at.Goals as goal

pub returns-in-0 : goal.returns-in-0
returns-in-0 c = no_letter_by_size _ _ _ c.requires c.in-0.is

pub bounds-line-from : goal.bounds-line-from
bounds-line-from c = omega (arith, c.in-1.is, c.requires.1 (omega (arith, c.in-1.is)))

pub returns-in-1 : goal.returns-in-1
returns-in-1 c = rw c.small.ensures (one_letter_by_size _ _ _ c.requires c.in-1.is)

pub returns-in_default : goal.returns-in_default
returns-in_default c = more_by_size _ _ _ c.requires (λ e. omega arith) (λ e. omega arith)
