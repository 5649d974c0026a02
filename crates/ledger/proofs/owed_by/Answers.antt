-- `owed_by` goes by the place that `position` gives, as its definition does; a place that is given holds a debt, so its moment can be read.
use mathlib.Core.Path.{sym, ◌∙◌}
use Rattle.ledger.proofs.StepLaws.{owed_where}
use Rattle.ledger.proofs.ModelLaws.{found_below}
use Rattle.ledger.proofs.owed_by.Goals as goal

pub settles_at-requires : goal.settles_at-requires
settles_at-requires c = let intact = c.requires in
    (intact.size, found_below _ intact c.position.ensures c.in_ok-pos.was)

pub returns : goal.returns
returns c = rw c.settles_at.ensures (owed_where _ _ (sym c.position.ensures ∙ c.in_ok-pos.was))

pub returns-in_err-pos : goal.returns-in_err-pos
returns-in_err-pos c = rw c.from_residual.ensures (owed_where _ _ (sym c.position.ensures ∙ c.in_err-pos.was))
