-- `debts::load` lends its part to the shard, to read only.
use Rattle.store.proofs.LendingLaws.{lent_starts, lent_length, lent_shard}
use native.Mathlib.Omega.{arith}
use Rattle.store.proofs.debts.load.Goals as goal

pub offset_bounds-ws-part : goal.offset_bounds-ws-part
offset_bounds-ws-part c = record { fits = omega (arith, c.requires.0.within, lent_starts c.requires.0) }

pub slice_bounds-load-count : goal.slice_bounds-load-count
slice_bounds-load-count c = lent_starts c.requires.0

pub slice_bounds-load-start : goal.slice_bounds-load-start
slice_bounds-load-start c = lent_starts c.requires.0

pub slice_bounds-load-end : goal.slice_bounds-load-end
slice_bounds-load-end c = c.requires.0.within

pub load-requires : goal.load-requires
load-requires c = (lent_length c.requires.0, c.requires.1)

pub returns : goal.returns
returns c = rw (lent_shard c.requires.0) at c.load.ensures
