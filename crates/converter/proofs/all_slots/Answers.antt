use native.Mathlib.Omega.{arith}
use Rattle.converter.proofs.ShardLaws.{part_ends, summing_start, summing_fits, summing_next, summing_over}
use Rattle.converter.proofs.all_slots.Goals as goal

pub loop-i-init : goal.loop-i-init
loop-i-init c = summing_start _ _ _ _

pub slots_numbered-slots-requires : goal.slots_numbered-slots-requires
slots_numbered-slots-requires c = part_ends c.requires.in_shards _ c.loop-i-test.true

pub overflow_add-slots : goal.overflow_add-slots
overflow_add-slots c = omega
    (arith, summing_fits c.requires c.loop-i.invariant c.loop-i-test.true c.slots_numbered-slots.ensures)

pub loop-i-preserved : goal.loop-i-preserved
loop-i-preserved c = summing_next c.requires c.loop-i.invariant c.loop-i-test.true c.slots_numbered-slots.ensures

pub returns : goal.returns
returns c = summing_over c.loop-i.invariant c.loop-i-test.false
