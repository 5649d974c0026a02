-- `words::load_rate` gives the rate: the first four words of the class.
use Rattle.classes.proofs.LayoutLaws.{rate_read}
use Rattle.classes.proofs.words.load_rate.Goals as goal

pub returns : goal.returns
returns c = rw (c.burst-burst.ensures, c.narrow_tokens-amount.ensures) (rate_read _ _ c.requires)
