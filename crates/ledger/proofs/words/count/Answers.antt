-- `words::count` gives the ledger's count: it is the first word.
use Rattle.ledger.proofs.LayoutLaws.{count_read}
use Rattle.ledger.proofs.words.count.Goals as goal

pub returns : goal.returns
returns c = count_read _ _
