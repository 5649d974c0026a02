-- `shard_size` is that of the layout's own function.
use Rattle.converter.proofs.shard_size.Goals as goal

pub shard_words_01-requires : goal.shard_words_01-requires
shard_words_01-requires c = rw c.in-Old.is at c.requires

pub shard_words-requires : goal.shard_words-requires
shard_words-requires c = rw c.in-Present.is at c.requires

pub returns-in-Old : goal.returns-in-Old
returns-in-Old c = rw c.in-Old.is c.shard_words_01.ensures

pub returns-in-Present : goal.returns-in-Present
returns-in-Present c = rw c.in-Present.is c.shard_words.ensures
