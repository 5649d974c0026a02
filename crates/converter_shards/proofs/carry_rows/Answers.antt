use Rattle.converter_shards.proofs.CarryLaws.{rows_again}
use native.Mathlib.Omega.{arith}
use Rattle.converter_shards.proofs.CarryLaws.{rows_start, source_row_ends, target_row_ends, rows_over}
use Rattle.converter_shards.proofs.carry_rows.Goals as goal

pub loop-i-init : goal.loop-i-init
loop-i-init c = rows_start _ _ _ _ _

pub overflow_mul-at : goal.overflow_mul-at
overflow_mul-at c = omega (arith, source_row_ends _ _ _ _ _ c.requires.0 c.requires.1 c.loop-i.invariant c.loop-i-test.true)

pub overflow_add-at_end : goal.overflow_add-at_end
overflow_add-at_end c = omega (arith, source_row_ends _ _ _ _ _ c.requires.0 c.requires.1 c.loop-i.invariant c.loop-i-test.true)

pub overflow_mul-onto : goal.overflow_mul-onto
overflow_mul-onto c = omega (arith, target_row_ends _ _ _ _ _ c.requires.0 c.requires.1 c.loop-i.invariant c.loop-i-test.true)

pub overflow_add-onto_end : goal.overflow_add-onto_end
overflow_add-onto_end c = omega (arith, target_row_ends _ _ _ _ _ c.requires.0 c.requires.1 c.loop-i.invariant c.loop-i-test.true)

pub offset_bounds-source-at : goal.offset_bounds-source-at
offset_bounds-source-at c = omega (arith, source_row_ends _ _ _ _ _ c.requires.0 c.requires.1 c.loop-i.invariant c.loop-i-test.true)

pub slice_bounds-carry-count : goal.slice_bounds-carry-count
slice_bounds-carry-count c = omega arith

pub slice_bounds-carry-start : goal.slice_bounds-carry-start
slice_bounds-carry-start c = omega arith

pub slice_bounds-carry-end : goal.slice_bounds-carry-end
slice_bounds-carry-end c = omega (arith, source_row_ends _ _ _ _ _ c.requires.0 c.requires.1 c.loop-i.invariant c.loop-i-test.true)

pub offset_bounds-target-onto : goal.offset_bounds-target-onto
offset_bounds-target-onto c = omega (arith, target_row_ends _ _ _ _ _ c.requires.0 c.requires.1 c.loop-i.invariant c.loop-i-test.true)

pub slice_bounds-carry-count-in-loop-i : goal.slice_bounds-carry-count-in-loop-i
slice_bounds-carry-count-in-loop-i c = omega arith

pub slice_bounds-carry-start-in-loop-i : goal.slice_bounds-carry-start-in-loop-i
slice_bounds-carry-start-in-loop-i c = omega arith

pub slice_bounds-carry-end-in-loop-i : goal.slice_bounds-carry-end-in-loop-i
slice_bounds-carry-end-in-loop-i c = omega (arith, target_row_ends _ _ _ _ _ c.requires.0 c.requires.1 c.loop-i.invariant c.loop-i-test.true)

pub loop-i-preserved : goal.loop-i-preserved
loop-i-preserved c = rows_again _ _ _ _ _ c.requires.0 c.requires.1 c.loop-i.invariant c.loop-i-test.true c.carry.ensures

pub shape_of-target : goal.shape_of-target
shape_of-target c = c.loop-i.invariant.same

pub returns : goal.returns
returns c = rows_over _ _ _ _ _ c.requires.0 c.requires.1 c.loop-i.invariant c.loop-i-test.false
