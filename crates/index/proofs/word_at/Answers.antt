-- `word_at` reads a place of the index: the word lies as far past the first place as the place is.
use Rattle.index.proofs.LayoutLaws.{place_read}
use Rattle.index.proofs.word_at.Goals as goal

pub returns : goal.returns
returns c = place_read _ _ _ c.requires.1
