-- `faults::all_digits` ends at the first byte that is no digit.
use native.Mathlib.Omega.{arith}
use mathlib.Core.Path.{sym, ◌∙◌}
use Rattle.desk_reasons.proofs.FaultLaws.{none_left, digit_goes_on, other_ends}
use Rattle.desk_reasons.proofs.faults.all_digits.Goals as goal

pub returns-then-not-is_digit : goal.returns-then-not-is_digit
returns-then-not-is_digit c = let loop' = c.loop-byte in
    other_ends _ loop'.byte-index (omega arith) (sym c.is_digit.ensures ∙ c.if-not-is_digit.true) ∙ loop'.invariant

pub loop-byte-preserved : goal.loop-byte-preserved
loop-byte-preserved c = let loop' = c.loop-byte in
    digit_goes_on _ loop'.byte-index (omega arith) (sym c.is_digit.ensures ∙ c.if-not-is_digit.false) ∙ loop'.invariant

pub returns : goal.returns
returns c = let end = c.loop-byte in sym (sym end.invariant ∙ none_left _ end.byte-index (omega arith))
