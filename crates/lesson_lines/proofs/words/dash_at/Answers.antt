-- src/words.rt:185:8
use Rattle.lesson_lines.proofs.ReadingLaws.{dash_by_byte, no_dash}
use native.Mathlib.Omega.{arith}
use Rattle.lesson_lines.proofs.words.dash_at.Goals as goal

pub bounds-line-from : goal.bounds-line-from
bounds-line-from c = let if1' = c.if-end-from-eq1 in
    omega (arith, if1'.true, c.requires.1 (omega (arith, if1'.true)))

pub returns-then-end-from-eq1 : goal.returns-then-end-from-eq1
returns-then-end-from-eq1 c = dash_by_byte _ _ _ c.if-end-from-eq1.true

pub returns : goal.returns
returns c = no_dash _ _ _ c.if-end-from-eq1.false
