-- `after_try` has a case for a row that is tried again and one for a row that ends.
use Rattle.outage_rows.proofs.RunLaws.{waits_again, ends_now}
use mathlib.Core.Path.{sym, ◌∙◌}
use Rattle.outage_rows.proofs.after_try.Goals as goal

pub returns-then-again : goal.returns-then-again
returns-then-again c = let one-more' = c.one_more-tries in
    rw one-more'.ensures (sym (waits_again _ _ (rw one-more'.ensures at (sym c.again.ensures ∙ c.if-again.true))))

pub returns : goal.returns
returns c = let one-more' = c.one_more-tries in
    rw one-more'.ensures (sym (ends_now _ _ (rw one-more'.ensures at (sym c.again.ensures ∙ c.if-again.false))))
