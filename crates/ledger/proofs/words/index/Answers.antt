-- `words::index` says where the index of the debts lies: past the debts, two words each, and past as many other words as the index has.
use Prim.Native.Nat.{ℕ, ◌+◌, ◌*◌}
use native.Mathlib.Omega.{arith}
use mathlib.Core.Path.{◌≡◌, ap}
use Rattle.index.specs.declared.Index.{Index}
use Rattle.index.specs.Layout.{places_for}
use Rattle.ledger.specs.Layout.{debts_at, debt_width, index_at}
use Rattle.ledger.proofs.words.index.Goals as goal

-- The words that each debt adds before the index, added up.
starts-at : (cap : ℕ) → debts_at + (debt_width + places_for 1) * cap ≡ index_at cap
starts-at cap = omega arith

pub returns : goal.returns
returns c = let cap = c.args.cap in
    ap {B = Index} (λ (start : ℕ). record { base = start; size = places_for cap; first = debts_at; width = debt_width; key = 0 }) (starts-at cap)
