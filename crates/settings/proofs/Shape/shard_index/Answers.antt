-- `Shape::shard_index` masks the bits from the 40th on. There is at least one shard, so the mask is no wrapped difference.
use Rattle.settings.proofs.SettingsLaws.{accepted_shards_least}
use native.Mathlib.Omega.{arith}
use Rattle.settings.proofs.Shape.shard_index.Goals as goal

pub overflow_sub-result : goal.overflow_sub-result
overflow_sub-result c = omega (arith, accepted_shards_least c.requires)
