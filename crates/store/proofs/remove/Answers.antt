-- `remove` counts the slots of the other shards, lends its part to the store, which gives the outcome on the shard in it, and stores the total.
use Rattle.store.proofs.LendingLaws.{lent_starts, intact_of_sound, lent_counted, back_placed, total_stays_small, removed_count_fits}
use Rattle.shard.specs.Model as OneShard
use native.Mathlib.Omega.{arith}
use Rattle.store.proofs.remove.Goals as goal

pub other_slots-others-requires : goal.other_slots-others-requires
other_slots-others-requires c = let pre' = c.requires in (pre'.0, pre'.2)

pub offset_bounds-ws-part : goal.offset_bounds-ws-part
offset_bounds-ws-part c = let pre' = c.requires in record { fits = omega (arith, pre'.0.within, lent_starts pre'.0) }

pub slice_bounds-remove-count : goal.slice_bounds-remove-count
slice_bounds-remove-count c = lent_starts c.requires.0

pub slice_bounds-remove-start : goal.slice_bounds-remove-start
slice_bounds-remove-start c = lent_starts c.requires.0

pub slice_bounds-remove-end : goal.slice_bounds-remove-end
slice_bounds-remove-end c = c.requires.0.within

pub remove-known-requires : goal.remove-known-requires
remove-known-requires c = let pre' = c.requires in intact_of_sound pre'.0 pre'.1

pub move_total-requires : goal.move_total-requires
move_total-requires c = let pre' = c.requires in
    let back = back_placed pre'.0 (OneShard.removed _) _ c.remove-known.auto.ws c.remove-known.ensures in
    let small =
    total_stays_small pre'.0 (OneShard.removed _) _ c.remove-known.auto.ws c.remove-known.ensures (removed_count_fits _ pre'.1 _) pre'.2
    c.other_slots-others.ensures in
    (back, omega (arith, small, pre'.2.small, pre'.0.within, pre'.0.ends))

pub returns : goal.returns
returns c = let pre' = c.requires in
    rw c.move_total.ensures
    (lent_counted pre'.0 (OneShard.removed _) _ c.remove-known.auto.ws c.remove-known.ensures pre'.2 c.other_slots-others.ensures)
