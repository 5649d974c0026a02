-- `faults::of_number` looks whether all bytes are digits, then how many they are.
use Rattle.desk_reasons.proofs.FaultLaws.{number_large, number_long, number_of_others}
use mathlib.Core.Path.{sym, ◌∙◌}
use Rattle.desk_reasons.proofs.faults.of_number.Goals as goal

pub returns-then-field-le20 : goal.returns-then-field-le20
returns-then-field-le20 c = number_large _ _ (sym c.all_digits.ensures ∙ c.if-all_digits.true) c.if-field-le20.true

pub returns-then-all_digits : goal.returns-then-all_digits
returns-then-all_digits c = number_long _ _ (sym c.all_digits.ensures ∙ c.if-all_digits.true) c.if-field-le20.false

pub returns : goal.returns
returns c = number_of_others _ _ (sym c.all_digits.ensures ∙ c.if-all_digits.false)
