-- `words::debt_rows` says where the debts lie.
use Rattle.converter_shards.specs.Layout01.{debts_at01, debt_width01, ledger_start01}
use Rattle.converter_shards.specs.declared.Rows.{Rows}
use mathlib.Core.Path.{◌≡◌, ap}
use native.Mathlib.Omega.{arith}
use Prim.Native.Nat.{ℕ, ◌+◌, ◌*◌}
use Rattle.converter_shards.proofs.words.debt_rows.Goals as goal

pub returns : goal.returns
returns c = let cap = c.args.cap in let starts : 5 + 6 * cap ≡ ledger_start01 cap + debts_at01 = omega arith in ap {B = Rows} (λ
    (start : ℕ). record { first = start; width = debt_width01; key = 0 }) starts
