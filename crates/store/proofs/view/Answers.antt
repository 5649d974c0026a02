-- `view` lends its part to the store, to read only.
use Rattle.store.proofs.LendingLaws.{lent_starts, lent_shard, intact_of_sound}
use native.Mathlib.Omega.{arith}
use Rattle.store.proofs.view.Goals as goal

pub offset_bounds-ws-part : goal.offset_bounds-ws-part
offset_bounds-ws-part c = record { fits = omega (arith, c.requires.0.within, lent_starts c.requires.0) }

pub slice_bounds-view-count : goal.slice_bounds-view-count
slice_bounds-view-count c = lent_starts c.requires.0

pub slice_bounds-view-start : goal.slice_bounds-view-start
slice_bounds-view-start c = lent_starts c.requires.0

pub slice_bounds-view-end : goal.slice_bounds-view-end
slice_bounds-view-end c = c.requires.0.within

pub view-requires : goal.view-requires
view-requires c = (intact_of_sound c.requires.0 c.requires.1, c.requires.2)

pub returns : goal.returns
returns c = rw (lent_shard c.requires.0) at c.view.ensures
