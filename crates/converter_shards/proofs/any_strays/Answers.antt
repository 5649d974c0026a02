use Rattle.converter_shards.proofs.CheckLaws.{none_start, none_next, none_found, none_over}
use Rattle.converter_shards.proofs.any_strays.Goals as goal

pub loop-i-init : goal.loop-i-init
loop-i-init c = none_start _ _

pub strays-requires : goal.strays-requires
strays-requires c = (c.requires, c.loop-i-test.true)

pub returns-then-strays : goal.returns-then-strays
returns-then-strays c = none_found _ _ c.loop-i-test.true c.strays.ensures c.if-strays.true

pub loop-i-preserved : goal.loop-i-preserved
loop-i-preserved c = none_next _ _ c.loop-i.invariant c.loop-i-test.true c.strays.ensures c.if-strays.false

pub returns : goal.returns
returns c = none_over _ _ c.loop-i.invariant c.loop-i-test.false
