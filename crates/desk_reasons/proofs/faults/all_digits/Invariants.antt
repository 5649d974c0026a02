-- `faults::all_digits` looks at one byte more with each turn: the bytes from there on are all digits exactly if all are.
use mathlib.Core.Path.{◌≡◌}
use lib.ListN.{drop}
use Rattle.decimal.specs.Decimal.{all_digits}
use Rattle.desk_reasons.proofs.faults.all_digits.Given as goal

abbrev pub invariant-loop-byte : goal.invariant-loop-byte
invariant-loop-byte l = all_digits (drop l.byte-index l.field) ≡ all_digits l.field
