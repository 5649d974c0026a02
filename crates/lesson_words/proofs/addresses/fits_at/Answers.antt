-- src/addresses.rt:45:9
use Rattle.lesson_words.specs.Addresses.{fits_at}
use borrow.Author.Tests.{eq-eqb, ne_eqb}
use Rattle.lesson_words.proofs.addresses.fits_at.Goals as goal

pub returns-then-i-eq2 : goal.returns-then-i-eq2
unfolding fits_at
returns-then-i-eq2 c = rw (eq-eqb _ _ c.if-i-eq2.true)

pub returns : goal.returns
unfolding fits_at
returns c = rw (ne_eqb _ _ c.if-i-eq2.false) c.is_hex.ensures
