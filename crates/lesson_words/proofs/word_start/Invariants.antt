use Rattle.lesson_words.specs.Words.{blanks_ahead}
use mathlib.Core.Path.{◌≡◌}
use lib.ListN.{drop}
use Prim.Native.Nat.{◌+◌}
use Rattle.lesson_words.proofs.word_start.Given as goal

abbrev pub invariant-loop-at : goal.invariant-loop-at
invariant-loop-at l = l.at + blanks_ahead (drop l.at l.line) ≡ l.from + blanks_ahead (drop l.from l.line)
