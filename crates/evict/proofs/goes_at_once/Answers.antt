-- `goes_at_once` asks whether the slot is full and then whether it lacks the mark, as the definition's own test goes.
use mathlib.Core.Path.{sym, ◌∙◌}
use mathlib.Core.Bool.{not-not}
use Rattle.evict.proofs.goes_at_once.Goals as goal

pub returns-then-is_lossless : goal.returns-then-is_lossless
returns-then-is_lossless c = simp (sym c.is_lossless.ensures ∙ c.if-is_lossless.true, not-not)

pub returns-else-is_lossless : goal.returns-else-is_lossless
returns-else-is_lossless c = simp (c.if-is_lossless.false, sym c.is_lossless.ensures ∙ c.if-is_lossless.false)
