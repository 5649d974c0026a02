use Rattle.lesson_words.specs.Words.{word_size}
use mathlib.Core.Path.{◌≡◌}
use lib.ListN.{drop}
use Prim.Native.Nat.{◌+◌}
use Rattle.lesson_words.proofs.word_end.Given as goal

abbrev pub invariant-loop-at : goal.invariant-loop-at
invariant-loop-at l = l.at + word_size (drop l.at l.line) ≡ l.from + word_size (drop l.from l.line)
