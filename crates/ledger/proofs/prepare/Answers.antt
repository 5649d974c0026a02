-- src/lib.rt:321:11
use Rattle.ledger.proofs.PreparedLaws.{prepared_known, prepared_where}
use mathlib.Core.Path.{◌∙◌}
use Rattle.ledger.proofs.prepare.Goals as goal

pub returns-in-Some : goal.returns-in-Some
returns-in-Some c = prepared_known _ _ _ _ ∙ prepared_where _ _ _ _ c.position.ensures c.in-Some.is

pub returns-in-None : goal.returns-in-None
returns-in-None c = c.prepare_new.ensures
    ∙ prepared_where _ _ _ _ c.position.ensures c.in-None.is
