-- `words::set_count` changes the ledger's count alone: it stores the first word.
use Rattle.ledger.proofs.LayoutLaws.{count_put}
use Rattle.ledger.proofs.words.set_count.Goals as goal

pub returns : goal.returns
returns c = count_put _ _ c.requires _
