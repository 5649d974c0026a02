-- `move_total` adds the slots in the part, and stores the sum in the first word.
use Rattle.store.proofs.LendingLaws.{lent_starts, lent_length, lent_shard}
use native.Mathlib.Omega.{arith}
use Rattle.store.proofs.move_total.Goals as goal

pub offset_bounds-ws-part : goal.offset_bounds-ws-part
offset_bounds-ws-part c = let pre' = c.requires in
    record { fits = omega (arith, pre'.0.within, lent_starts pre'.0) }

pub slice_bounds-len-count : goal.slice_bounds-len-count
slice_bounds-len-count c = lent_starts c.requires.0

pub slice_bounds-len-start : goal.slice_bounds-len-start
slice_bounds-len-start c = lent_starts c.requires.0

pub slice_bounds-len-end : goal.slice_bounds-len-end
slice_bounds-len-end c = c.requires.0.within

pub len-own-requires : goal.len-own-requires
len-own-requires c = lent_length c.requires.0

pub overflow_add-ws : goal.overflow_add-ws
overflow_add-ws c = let pre' = c.requires in
    record { fits = rw (c.len-own.ensures, lent_shard pre'.0) pre'.1 }

pub bounds-ws-0 : goal.bounds-ws-0
bounds-ws-0 c = let pre' = c.requires in
    omega (arith, pre'.0.within, pre'.0.begins, lent_starts pre'.0)

pub returns : goal.returns
returns c = rw (c.len-own.ensures, lent_shard c.requires.0)
