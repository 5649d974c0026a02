-- `carry_shard` carries the words before the slots, the slots row by row, and the rest.
use Rattle.converter_shards.proofs.CarryLaws.{shard_lent}
use Rattle.converter_shards.proofs.carry_shard.Goals as goal

pub returns : goal.returns
returns c = shard_lent _ _ _ c.args.source.now c.args.target.now c.requires.0 c.requires.1 c.carry.ensures c.carry_rows.ensures c.carry-2.ensures
