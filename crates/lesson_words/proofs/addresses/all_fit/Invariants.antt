use Rattle.lesson_words.specs.Addresses.{all_fit}
use mathlib.Core.Path.{◌≡◌}
use lib.ListN.{drop}
use Rattle.lesson_words.proofs.addresses.all_fit.Given as goal

abbrev pub invariant-loop-i : goal.invariant-loop-i
invariant-loop-i l = all_fit l.i (drop l.i l.word) ≡ all_fit 0 l.word
