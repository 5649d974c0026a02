-- `words::load` gives debt i whole: the two words of its row.
use Rattle.ledger.proofs.LayoutLaws.{debt_read}
use Rattle.ledger.proofs.words.load.Goals as goal

pub returns : goal.returns
returns c = debt_read _ _ _ c.requires.1
