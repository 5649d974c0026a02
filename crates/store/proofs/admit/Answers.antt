-- `admit` counts the slots of the other shards, lends its part to the store, which gives the outcome on the shard in it, and stores the total.
use Rattle.shard.proofs.ShardLaws.{admit_count_fits}
use Rattle.store.proofs.LendingLaws.{lent_starts, intact_of_sound, lent_counted, back_placed, total_stays_small}
use Rattle.shard.specs.Model as OneShard
use native.Mathlib.Omega.{arith}
use Rattle.store.proofs.admit.Goals as goal

pub other_slots-others-requires : goal.other_slots-others-requires
other_slots-others-requires c = let pre' = c.requires in (pre'.0, pre'.4)

pub offset_bounds-ws-part : goal.offset_bounds-ws-part
offset_bounds-ws-part c = let pre' = c.requires in record { fits = omega (arith, pre'.0.within, lent_starts pre'.0) }

pub slice_bounds-admit-count : goal.slice_bounds-admit-count
slice_bounds-admit-count c = lent_starts c.requires.0

pub slice_bounds-admit-start : goal.slice_bounds-admit-start
slice_bounds-admit-start c = lent_starts c.requires.0

pub slice_bounds-admit-end : goal.slice_bounds-admit-end
slice_bounds-admit-end c = c.requires.0.within

pub admit-decision-requires : goal.admit-decision-requires
admit-decision-requires c = let pre' = c.requires in (intact_of_sound pre'.0 pre'.1, pre'.2, pre'.3)

pub move_total-requires : goal.move_total-requires
move_total-requires c = let pre' = c.requires in
    let back = back_placed pre'.0 (OneShard.admit _ _ _ _ _) _ c.admit-decision.auto.ws c.admit-decision.ensures in
    let small =
    total_stays_small pre'.0 (OneShard.admit _ _ _ _ _) _ c.admit-decision.auto.ws c.admit-decision.ensures (admit_count_fits _ pre'.1 _ _ _ _ _) pre'.4
    c.other_slots-others.ensures in
    (back, omega (arith, small, pre'.4.small, pre'.0.within, pre'.0.ends))

pub returns : goal.returns
returns c = let pre' = c.requires in
    rw c.move_total.ensures
    (lent_counted pre'.0 (OneShard.admit _ _ _ _ _) _ c.admit-decision.auto.ws c.admit-decision.ensures pre'.4 c.other_slots-others.ensures)
