-- `limiter_words_01` gives the number that the call of `converter` gives.
use borrow.Author.Rules.{rules}
use Rattle.limiter_converter.proofs.limiter_words_01.Goals as goal

pub returns : goal.returns
returns c = rw (c.old_words.ensures, c.settings_of.ensures)
