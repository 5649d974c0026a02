-- `debts::len` lends its part to the shard, to read only.
use Rattle.store.proofs.LendingLaws.{lent_starts, lent_length, lent_shard}
use native.Mathlib.Omega.{arith}
use Rattle.store.proofs.debts.len.Goals as goal

pub offset_bounds-ws-part : goal.offset_bounds-ws-part
offset_bounds-ws-part c = record { fits = omega (arith, c.requires.within, lent_starts c.requires) }

pub slice_bounds-len-count : goal.slice_bounds-len-count
slice_bounds-len-count c = lent_starts c.requires

pub slice_bounds-len-start : goal.slice_bounds-len-start
slice_bounds-len-start c = lent_starts c.requires

pub slice_bounds-len-end : goal.slice_bounds-len-end
slice_bounds-len-end c = c.requires.within

pub len-requires : goal.len-requires
len-requires c = lent_length c.requires

pub returns : goal.returns
returns c = rw (lent_shard c.requires) at c.len.ensures
