use Rattle.converter_shards.proofs.CarryLaws.{carrying_start, carrying_next, carrying_over}
use Rattle.converter_shards.proofs.carry.Goals as goal

pub loop-k-init : goal.loop-k-init
loop-k-init c = carrying_start _ _

pub loop-k-preserved : goal.loop-k-preserved
loop-k-preserved c = carrying_next _ _ c.loop-k.invariant (rw c.loop-k.invariant.same c.loop-k-test.true) c.word_or_zero.ensures

pub shape_of-target : goal.shape_of-target
shape_of-target c = c.loop-k.invariant.same

pub returns : goal.returns
returns c = carrying_over _ _ c.loop-k.invariant (rw c.loop-k.invariant.same c.loop-k-test.false)
