use Rattle.lesson_words.proofs.AddressLaws.{none_left, fit_goes_on, misfit_ends}
use mathlib.Core.Path.{sym, ◌∙◌}
use native.Mathlib.Omega.{arith}
use Rattle.lesson_words.proofs.addresses.all_fit.Goals as goal

pub returns-then-not-fits_at : goal.returns-then-not-fits_at
returns-then-not-fits_at c = let loop' = c.loop-i in
    misfit_ends _ loop'.i (omega arith) (sym c.fits_at.ensures ∙ c.if-not-fits_at.true) ∙ loop'.invariant

pub loop-i-preserved : goal.loop-i-preserved
loop-i-preserved c = let loop' = c.loop-i in
    fit_goes_on _ loop'.i (omega arith) (sym c.fits_at.ensures ∙ c.if-not-fits_at.false) ∙ loop'.invariant

pub returns : goal.returns
returns c = let loop' = c.loop-i in
    sym (sym loop'.invariant ∙ none_left _ loop'.i (omega arith))
