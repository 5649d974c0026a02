-- `words::index` says where the index of the slots lies: past the slots, six words each, the ledger's first words, and the debts, two words each.
use Prim.Native.Nat.{ℕ, ◌+◌, ◌*◌}
use native.Mathlib.Omega.{arith}
use mathlib.Core.Path.{◌≡◌, ap}
use Rattle.index.specs.declared.Index.{Index}
use Rattle.index.specs.Layout.{places_for}
use Rattle.ledger.specs.Layout.{debts_at, debt_width}
use Rattle.shard_map.specs.Layout.{slots_at, slot_width, key_in, slot_index}
use Rattle.shard_map.proofs.words.index.Goals as goal

-- The words before the index: the first words of the shard and of the ledger, and those that each place adds.
starts-at : (cap : ℕ) → slots_at + debts_at + (slot_width + debt_width) * cap ≡ (slot_index cap).base
starts-at cap = omega arith

pub returns : goal.returns
returns c = let cap = c.args.cap in
    ap {B = Index} (λ (start : ℕ). record { base = start; size = places_for cap; first = slots_at; width = slot_width; key = key_in }) (starts-at cap)
