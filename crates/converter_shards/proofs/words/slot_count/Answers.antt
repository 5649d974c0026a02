-- `words::slot_count` reads the first word.
use Rattle.converter_shards.proofs.ShardLaws.{count01_read}
use Rattle.converter_shards.proofs.words.slot_count.Goals as goal

pub returns : goal.returns
returns c = count01_read _ _
