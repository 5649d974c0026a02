-- `faults::seen` looks for no byte, a CR and a tab, in this order.
use Rattle.desk_reasons.proofs.FaultLaws.{seen_empty, seen_return, seen_tab, seen_other}
use mathlib.Core.Path.{sym, ◌∙◌}
use borrow.Author.Tests.{eqb-true, eqb-false}
use Rattle.desk_reasons.proofs.faults.seen.Goals as goal

pub returns-then-is_empty : goal.returns-then-is_empty
returns-then-is_empty c = seen_empty _ _ (eqb-true _ _ (sym c.is_empty.ensures ∙ c.if-is_empty.true))

pub returns-then-has : goal.returns-then-has
returns-then-has c = seen_return _ _ (eqb-false _ _ (sym c.is_empty.ensures ∙ c.if-is_empty.false)) (sym c.has.ensures ∙ c.if-has.true)

pub returns-then-has-2 : goal.returns-then-has-2
returns-then-has-2 c =
    seen_tab _ _ (eqb-false _ _ (sym c.is_empty.ensures ∙ c.if-is_empty.false)) (sym c.has.ensures ∙ c.if-has.false) (sym c.has-2.ensures ∙ c.if-has-2.true)

pub returns : goal.returns
returns c =
    seen_other _ _ (eqb-false _ _ (sym c.is_empty.ensures ∙ c.if-is_empty.false)) (sym c.has.ensures ∙ c.if-has.false) (sym c.has-2.ensures ∙ c.if-has-2.false)
