-- `part_at` adds small numbers: the shape is that of an accepted size, and the number is that of a shard.
use Rattle.store.proofs.MemoryLaws.{part_ends_early, shard_words_few}
use native.Mathlib.Omega.{arith}
use Rattle.store.proofs.part_at.Goals as goal

pub shard_start-start-requires : goal.shard_start-start-requires
shard_start-start-requires c = omega (arith, part_ends_early c.args.shard c.requires.0 c.requires.1)

pub shard_words-requires : goal.shard_words-requires
shard_words-requires c = shard_words_few c.requires.0

pub overflow_add-result : goal.overflow_add-result
overflow_add-result c = let few = part_ends_early c.args.shard c.requires.0 c.requires.1 in
    record { fits = rw (c.shard_start-start.ensures, c.shard_words.ensures) (omega (arith, few)) }

pub returns : goal.returns
returns c = rw (c.shard_start-start.ensures, c.shard_words.ensures)
