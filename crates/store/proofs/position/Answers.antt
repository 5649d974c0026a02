-- `position` lends its part to the shard, to read only.
use Rattle.store.proofs.LendingLaws.{lent_starts, lent_shard, intact_of_sound}
use native.Mathlib.Omega.{arith}
use Rattle.store.proofs.position.Goals as goal

pub offset_bounds-ws-part : goal.offset_bounds-ws-part
offset_bounds-ws-part c = record { fits = omega (arith, c.requires.0.within, lent_starts c.requires.0) }

pub slice_bounds-position-count : goal.slice_bounds-position-count
slice_bounds-position-count c = lent_starts c.requires.0

pub slice_bounds-position-start : goal.slice_bounds-position-start
slice_bounds-position-start c = lent_starts c.requires.0

pub slice_bounds-position-end : goal.slice_bounds-position-end
slice_bounds-position-end c = c.requires.0.within

pub position-requires : goal.position-requires
position-requires c = intact_of_sound c.requires.0 c.requires.1

pub returns : goal.returns
returns c = rw (lent_shard c.requires.0) at c.position.ensures
