-- `pass_owing` leaves the walk as it is, or makes a row of looks from the hand on and stores the hand after it.
use Prim.Native.Nat.{◌≤◌, ◌<◌}
use native.Mathlib.Omega.{arith}
use Rattle.shard_map.specs.Layout.{shard}
use Rattle.shard_map.proofs.ModelLaws.{intact_cap}
use Rattle.evict.proofs.RowLaws.{is_at_a_place, row_fewer, hand_at_slot, row_passed}
use Rattle.evict.proofs.pass_owing.Goals as goal

-- The hand stands at a slot, and the row leaves no more looks than it had.
at_slot : (c : goal.After-len) → let a = c.args in c.hand-pos.result < (shard a.cap a.ws.now).slots.count
at_slot c = let a = c.args in hand_at_slot (shard a.cap a.ws.now) c.requires.2 c.hand-pos.ensures

-- The hand stands at a slot, and the row leaves no more looks than it had.
at_slot_2 : (c : goal.After-min-run) → let a = c.args in c.hand-pos.result < (shard a.cap a.ws.now).slots.count
at_slot_2 c = let a = c.args in hand_at_slot (shard a.cap a.ws.now) c.requires.2 c.hand-pos.ensures

no_more : (c : goal.After-struct_known-1) → c.look_along-row.result.left ≤ c.min-run.result
no_more c = row_fewer _ _ _ _ _ _ c.look_along-row.ensures

no_more_2 : (c : goal.After-struct_known-2-1) → c.look_along-row.result.left ≤ c.min-run.result
no_more_2 c = row_fewer _ _ _ _ _ _ c.look_along-row.ensures

pub overflow_sub-len : goal.overflow_sub-len
overflow_sub-len c = omega (arith, c.len.ensures, at_slot c)

pub look_along-row-requires : goal.look_along-row-requires
look_along-row-requires c = let pre' = c.requires in
    let short = c.min-run.ensures in
    let count = c.len.ensures in
    (pre'.0, pre'.1, omega arith, omega (arith, short, count, at_slot_2 c, pre'.0.sound.count_fits, intact_cap pre'.0))

pub overflow_sub-end : goal.overflow_sub-end
overflow_sub-end c = omega (arith, no_more c)

pub overflow_add-result : goal.overflow_add-result
overflow_add-result c = omega (arith, no_more_2 c, c.min-run.ensures, c.ranges)

pub returns : goal.returns
returns c = let pre' = c.requires in
    let noted = is_at_a_place c.args.walk.unmarked (rw c.if-is_none.false at c.is_none.ensures) in
    row_passed pre'.1 _ _ _ noted.1 (omega (arith, c.if-left-eq0.false)) pre'.2 c.hand-pos.ensures
    c.len.ensures c.min-run.ensures c.look_along-row.ensures c.set_hand.ensures
