use Rattle.converter_shards.proofs.CheckLaws.{none_start, none_next, none_found, none_over}
use Rattle.converter_shards.proofs.any_unplaced.Goals as goal

pub loop-i-init : goal.loop-i-init
loop-i-init c = none_start _ _

pub unplaced-requires : goal.unplaced-requires
unplaced-requires c = (c.requires, c.loop-i-test.true)

pub returns-then-unplaced : goal.returns-then-unplaced
returns-then-unplaced c = none_found _ _ c.loop-i-test.true c.unplaced.ensures c.if-unplaced.true

pub loop-i-preserved : goal.loop-i-preserved
loop-i-preserved c = none_next _ _ c.loop-i.invariant c.loop-i-test.true c.unplaced.ensures c.if-unplaced.false

pub returns : goal.returns
returns c = none_over _ _ c.loop-i.invariant c.loop-i-test.false
