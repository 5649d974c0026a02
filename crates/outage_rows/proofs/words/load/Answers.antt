-- `words::load` gives row i whole: the six words of its row.
use Rattle.outage_rows.proofs.LayoutLaws.{row_read}
use Rattle.outage_rows.proofs.words.load.Goals as goal

pub returns : goal.returns
returns c = row_read _ _ _ c.requires.1
