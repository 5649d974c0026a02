-- `words::set_sweep` changes the sweep alone: it stores the third word.
use Rattle.shard_map.proofs.LayoutLaws.{sweep_put}
use Rattle.shard_map.proofs.words.set_sweep.Goals as goal

pub returns : goal.returns
returns c = sweep_put _ _ c.requires _
