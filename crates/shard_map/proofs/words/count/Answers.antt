-- `words::count` gives the shard's slot count: it is the first word.
use Rattle.shard_map.proofs.LayoutLaws.{count_read}
use Rattle.shard_map.proofs.words.count.Goals as goal

pub returns : goal.returns
returns c = count_read _ _
