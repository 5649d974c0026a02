-- `words::load` gives slot i whole: the seven words of its row.
use Rattle.shard_map.proofs.LayoutLaws.{slot_read}
use Rattle.shard_map.proofs.words.load.Goals as goal

pub returns : goal.returns
returns c = slot_read _ _ _ c.requires.1
