-- `check_rate` refuses the rate as 32 bits hold it, which is refused alike.
use Rattle.classes.proofs.RefusalLaws.{rate_refused}
use Rattle.settings.specs.Rate.{rate_refusal}
use mathlib.Core.Path.{ap, ◌∙◌}
use Rattle.classes.proofs.check_rate.Goals as goal

pub returns : goal.returns
returns c = c.check.ensures ∙ ap rate_refusal c.rate_of.ensures ∙ rate_refused _ _
