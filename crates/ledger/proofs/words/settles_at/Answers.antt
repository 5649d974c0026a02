-- `words::settles_at` gives the moment of debt i: the second word of its row.
use mathlib.Core.Path.{ap}
use Rattle.ledger.proofs.LayoutLaws.{debt_read}
use Rattle.ledger.proofs.words.settles_at.Goals as goal

pub returns : goal.returns
returns c = ap (λ d. d.settles) (debt_read _ _ _ c.requires.1)
