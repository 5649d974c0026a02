-- `known_after` tells by the gap what a walk has shown.
use Rattle.std.proofs.Common.{sym, ◌∙◌}
use Rattle.index.proofs.TrailLaws.{known_left, known_filled}
use Rattle.index.proofs.known_after.Goals as goal

pub returns-then-word_at-eq0 : goal.returns-then-word_at-eq0
returns-then-word_at-eq0 c = known_left _ _ _ (sym c.word_at.ensures ∙ c.if-word_at-eq0.true)

pub returns : goal.returns
returns c = known_filled _ _ _ (rw c.word_at.ensures at c.if-word_at-eq0.false)
