-- `words::set_count` changes the shard's slot count alone: it stores the first word.
use Rattle.shard_map.proofs.LayoutLaws.{count_put}
use Rattle.shard_map.proofs.words.set_count.Goals as goal

pub returns : goal.returns
returns c = count_put _ _ c.requires _
