-- `words::set_cursor` changes the ledger's cursor alone: it stores the second word.
use Rattle.ledger.proofs.LayoutLaws.{cursor_put}
use Rattle.ledger.proofs.words.set_cursor.Goals as goal

pub returns : goal.returns
returns c = cursor_put _ _ c.requires _
