-- `part_of` gives the part of the shard with the hash's number, which is that of a shard.
use Rattle.store.proofs.MemoryLaws.{index_below}
use Rattle.store.proofs.part_of.Goals as goal

pub part_at-requires : goal.part_at-requires
part_at-requires c = (c.requires, rw c.shard_index.ensures (index_below c.args.hash c.requires))

pub returns : goal.returns
returns c = rw c.shard_index.ensures at c.part_at.ensures
