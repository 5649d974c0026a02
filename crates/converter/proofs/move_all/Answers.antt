use Rattle.converter.proofs.MoveLaws.{moving_start, target_part_ends, source_undamaged_at, moving_next, moving_over}
use Rattle.converter.proofs.ShardLaws.{part_ends}
use Rattle.converter.proofs.move_all.Goals as goal

pub loop-i-init : goal.loop-i-init
loop-i-init c = moving_start _ _ _ _ _

pub move_numbered-requires : goal.move_numbered-requires
move_numbered-requires c = let loop-test' = c.loop-i-test in
    let loop' = c.loop-i in (
      part_ends c.requires.0.in_shards _ loop-test'.true,
      target_part_ends c.requires.0 c.requires.1 loop'.invariant loop-test'.true,
      c.requires.1.room,
      source_undamaged_at c.requires.0 c.requires.1 loop'.invariant loop-test'.true,
    )

pub loop-i-preserved : goal.loop-i-preserved
loop-i-preserved c = moving_next c.requires.0 c.requires.1 c.loop-i.invariant c.loop-i-test.true
    c.move_numbered.ensures

pub shape_of-target : goal.shape_of-target
shape_of-target c = c.loop-i.invariant.same

pub returns : goal.returns
returns c = moving_over c.requires.0 c.requires.1 c.loop-i.invariant c.loop-i-test.false
