-- `take` goes by the place that `position` gives, as its definition does; a place that is given holds a debt, so it can be removed.
use Rattle.ledger.proofs.ModelLaws.{taken_where, found_held, found_below}
use Rattle.ledger.proofs.take.Goals as goal

pub settles_at-settles-requires : goal.settles_at-settles-requires
settles_at-settles-requires c = let intact = c.requires in
    (intact.size, found_below _ intact c.position.ensures c.in_ok-pos.was)

pub remove_at-requires : goal.remove_at-requires
remove_at-requires c = let intact = c.requires in
    (intact, found_held _ intact c.position.ensures c.in_ok-pos.was)

pub returns : goal.returns
returns c = rw (c.remove_at.ensures, c.settles_at-settles.ensures) (taken_where _ _ c.position.ensures c.in_ok-pos.was)

pub returns-in_err-pos : goal.returns-in_err-pos
returns-in_err-pos c = rw c.from_residual.ensures (taken_where _ _ c.position.ensures c.in_err-pos.was)
