-- `Settings::shape` is the shards and the share of each. The exponent is at most 6, so `share` takes it, and the shift is by less than 64 bits.
use native.Mathlib.Omega.{arith}
use Rattle.settings.proofs.SettingsLaws.{shard_exponent_most, shards_by_shift}
use Rattle.settings.proofs.Settings.shape.Goals as goal

pub share-cap-requires : goal.share-cap-requires
share-cap-requires c = rw c.shard_exponent-exponent.ensures (omega (arith, shard_exponent_most c.args.self))

pub overflow_shl-result : goal.overflow_shl-result
overflow_shl-result c = rw c.shard_exponent-exponent.ensures (omega (arith, shard_exponent_most c.args.self))

pub returns : goal.returns
returns c = let self = c.args.self in
    rw (c.share-cap.ensures, c.shard_exponent-exponent.ensures, shards_by_shift self)
