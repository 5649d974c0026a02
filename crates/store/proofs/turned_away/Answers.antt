-- `turned_away` lends its part to the store, to read only.
use Rattle.store.proofs.LendingLaws.{lent_starts, lent_shard, intact_of_sound}
use native.Mathlib.Omega.{arith}
use Rattle.store.proofs.turned_away.Goals as goal

pub offset_bounds-ws-part : goal.offset_bounds-ws-part
offset_bounds-ws-part c = record { fits = omega (arith, c.requires.0.within, lent_starts c.requires.0) }

pub slice_bounds-turned_away-count : goal.slice_bounds-turned_away-count
slice_bounds-turned_away-count c = lent_starts c.requires.0

pub slice_bounds-turned_away-start : goal.slice_bounds-turned_away-start
slice_bounds-turned_away-start c = lent_starts c.requires.0

pub slice_bounds-turned_away-end : goal.slice_bounds-turned_away-end
slice_bounds-turned_away-end c = c.requires.0.within

pub turned_away-requires : goal.turned_away-requires
turned_away-requires c = intact_of_sound c.requires.0 c.requires.1

pub returns : goal.returns
returns c = rw (lent_shard c.requires.0) at c.turned_away.ensures
