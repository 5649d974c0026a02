use Rattle.converter_shards.proofs.CheckLaws.{none_start, none_next, none_found, none_over}
use Rattle.converter_shards.proofs.has_twins.Goals as goal

pub loop-i-init : goal.loop-i-init
loop-i-init c = none_start _ _

pub has_twin-requires : goal.has_twin-requires
has_twin-requires c = (c.requires, c.loop-i-test.true)

pub returns-then-has_twin : goal.returns-then-has_twin
returns-then-has_twin c = none_found _ _ c.loop-i-test.true c.has_twin.ensures c.if-has_twin.true

pub loop-i-preserved : goal.loop-i-preserved
loop-i-preserved c = none_next _ _ c.loop-i.invariant c.loop-i-test.true c.has_twin.ensures c.if-has_twin.false

pub returns : goal.returns
returns c = none_over _ _ c.loop-i.invariant c.loop-i-test.false
