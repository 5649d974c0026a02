-- `words_in` adds small numbers: the shape is that of an accepted size.
use Rattle.store.proofs.MemoryLaws.{accepted_shards_end_early, accepted_words_fit}
use Rattle.settings.proofs.SettingsLaws.{accepted_cap_most, accepted_classes_few}
use native.Mathlib.Omega.{arith}
use Rattle.store.proofs.words.words_in.Goals as goal

pub shard_start-requires : goal.shard_start-requires
shard_start-requires c = omega (arith, accepted_shards_end_early c.requires, accepted_cap_most c.requires)

pub bucket_words-requires : goal.bucket_words-requires
bucket_words-requires c = accepted_classes_few c.requires

pub overflow_add-result : goal.overflow_add-result
overflow_add-result c = record { fits = rw (c.shard_start.ensures, c.bucket_words.ensures) (accepted_words_fit c.requires) }

pub returns : goal.returns
returns c = rw (c.shard_start.ensures, c.bucket_words.ensures)
