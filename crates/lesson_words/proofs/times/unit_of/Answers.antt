use Rattle.lesson_words.proofs.TimeLaws.{unit_of_none, unit_of_one, unit_of_two, unit_of_three, unit_of_more}
use mathlib.Core.Path.{◌∙◌}
use native.Mathlib.Omega.{arith}
use Rattle.lesson_words.proofs.times.unit_of.Goals as goal

pub returns-in-empty : goal.returns-in-empty
returns-in-empty c = unit_of_none _ (omega arith)

pub returns-in-len1 : goal.returns-in-len1
returns-in-len1 c = rw c.small.ensures at c.one_letter.ensures ∙ unit_of_one _ (omega arith)

pub returns-in-len2 : goal.returns-in-len2
returns-in-len2 c = rw (c.small-in-len2.ensures, c.small-in-len2-2.ensures) at c.two_letters.ensures ∙ unit_of_two _ (omega arith)

pub returns-in-len3 : goal.returns-in-len3
returns-in-len3 c =
    rw (c.small-in-len3.ensures, c.small-in-len3-2.ensures, c.small-in-len3-3.ensures) at c.three_letters.ensures ∙ unit_of_three _ (omega arith)

pub returns-in_default : goal.returns-in_default
returns-in_default c = unit_of_more _ (omega arith)
