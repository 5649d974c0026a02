-- `Settings::shard_exponent` is the exponent for the number asked for, raised to the fewest shards that hold the keys, or for 64 if that is less: what its
-- calls ensure, in turn.
use native.Mathlib.Omega.{arith}
use Rattle.settings.proofs.Settings.shard_exponent.Goals as goal

pub exponent_for-requires : goal.exponent_for-requires
exponent_for-requires c = omega (arith, c.min.ensures)

pub returns : goal.returns
returns c = rw (c.exponent_for.ensures, c.min.ensures, c.max.ensures, c.share-least.ensures)
