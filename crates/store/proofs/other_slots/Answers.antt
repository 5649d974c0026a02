-- `other_slots` takes the slots in the part from the total, which counts them.
use Rattle.store.proofs.LendingLaws.{lent_starts, lent_length, lent_shard}
use native.Mathlib.Omega.{arith}
use Rattle.store.proofs.other_slots.Goals as goal

pub bounds-ws-0 : goal.bounds-ws-0
bounds-ws-0 c = let pre' = c.requires in
    omega (arith, pre'.0.within, pre'.0.begins, lent_starts pre'.0)

pub offset_bounds-ws-part : goal.offset_bounds-ws-part
offset_bounds-ws-part c = let pre' = c.requires in
    record { fits = omega (arith, pre'.0.within, lent_starts pre'.0) }

pub slice_bounds-len-count : goal.slice_bounds-len-count
slice_bounds-len-count c = lent_starts c.requires.0

pub slice_bounds-len-start : goal.slice_bounds-len-start
slice_bounds-len-start c = lent_starts c.requires.0

pub slice_bounds-len-end : goal.slice_bounds-len-end
slice_bounds-len-end c = c.requires.0.within

pub len-requires : goal.len-requires
len-requires c = lent_length c.requires.0

pub overflow_sub-result : goal.overflow_sub-result
overflow_sub-result c = let pre' = c.requires in
    rw (c.len.ensures, lent_shard pre'.0) pre'.1.covers

pub returns : goal.returns
returns c = rw (c.len.ensures, lent_shard c.requires.0)
