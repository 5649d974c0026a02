use Rattle.converter_shards.proofs.CheckLaws.{none_start, none_next, none_found, none_over, none_passes}
use Rattle.converter.proofs.ShardLaws.{part_ends}
use Rattle.converter.proofs.any_refused.Goals as goal

pub loop-i-init : goal.loop-i-init
loop-i-init c = none_start _ _

pub numbered_refused-requires : goal.numbered_refused-requires
numbered_refused-requires c = let loop-test' = c.loop-i-test in
    (part_ends c.requires.0 _ loop-test'.true, c.requires.0.room, λ not-5. none_passes _ _ (c.requires.1 not-5) _ loop-test'.true)

pub returns-then-numbered_refused : goal.returns-then-numbered_refused
returns-then-numbered_refused c = none_found _ _ c.loop-i-test.true c.numbered_refused.ensures c.if-numbered_refused.true

pub loop-i-preserved : goal.loop-i-preserved
loop-i-preserved c = none_next _ _ c.loop-i.invariant c.loop-i-test.true c.numbered_refused.ensures c.if-numbered_refused.false

pub returns : goal.returns
returns c = none_over _ _ c.loop-i.invariant c.loop-i-test.false
