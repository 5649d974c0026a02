-- `check_parent` goes by the parent: none, or its number.
use Rattle.classes.proofs.RefusalLaws.{top_has_no_refusal, parent_refused}
use mathlib.Core.Path.{sym, ◌∙◌}
use Rattle.classes.proofs.check_parent.Goals as goal

pub returns-in-None : goal.returns-in-None
returns-in-None c = top_has_no_refusal _ _ (sym c.parent_of.ensures ∙ c.in-None.is)

pub returns-in-Some : goal.returns-in-Some
returns-in-Some c = c.check_number.ensures ∙ parent_refused _ _ (sym c.parent_of.ensures ∙ c.in-Some.is)
