-- `words::debt_count` reads the first word of the ledger.
use Rattle.converter_shards.proofs.ShardLaws.{debt_count01_read}
use Rattle.converter_shards.proofs.words.debt_count.Goals as goal

pub returns : goal.returns
returns c = debt_count01_read _ _
