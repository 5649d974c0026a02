-- `words::debt_index` says where the index of the debts lies.
use Prim.Native.Nat.{◌+◌, ◌*◌}
use native.Mathlib.Omega.{arith}
use mathlib.Core.Path.{◌≡◌}
use Rattle.converter_shards.specs.code.Carried.{debt_index_in_shard}
use Rattle.index.specs.Layout.{places_for}
use Rattle.converter_shards.proofs.words.debt_index.Goals as goal

pub returns : goal.returns
returns c = let cap = c.args.cap in let starts : 5 + 11 * cap ≡ (debt_index_in_shard cap).base = omega arith in let begins : 5 + 7 * cap
    ≡ (debt_index_in_shard cap).first = omega arith in λ j. record { base = starts j; size = places_for cap; first = begins j; width = 2; key = 0 }
