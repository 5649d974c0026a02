-- What a call that lists debts comes to, from step to step. No promise rests on this page: it serves the inner contracts of the code.
use Rattle.std.specs.Prelude.{ℕ, ◌≤◌, ◌<◌, List, length, take, drop}
use Rattle.units.specs.declared.Nanos.{Nanos}
use Rattle.settings.specs.declared.Settings.{Settings}
use Rattle.settings.specs.Settings.{first_refusal, shape_of}
use Rattle.ledger.specs.declared.Debt.{Debt}
use Rattle.ledger.specs.Model.{Ledger}
use Rattle.store.specs.declared.Part.{Part}
use Rattle.store.specs.Memory.{Placed, part_at, shard_in}
use Rattle.store.specs.Refusals.{set_up_refusal, moment_refusal}
use Rattle.rules.specs.Debts.{unsettled, listed, shard_refusal}
use Rattle.debt_calls.specs.declared.Plan.{Plan}

-- The ledger in a part.
abbrev pub ledger_in : Part → List ℕ → Ledger
ledger_in part ws = (shard_in part ws).ledger

-- Of the debts from a place on, those that settle after a moment.
unfoldable pub listed_from : Nanos → Ledger → ℕ → List Debt
listed_from at l i = unsettled at (drop i (take l.debts.count l.debts.places))

-- The part lies in the memory, and its ledger counts no more debts than it has room for.
pub record Readable (part : Part) (ws : List ℕ) : Type 0 where
  pub placed : Placed part ws
  pub few : (ledger_in part ws).debts.count ≤ part.cap

-- So many records can be written: that many debts are listed. Where none is to be written, the part may be any.
pub record Fillable (part : Part) (ws : List ℕ) (at : Nanos) (n : ℕ) : Type 0 where
  pub readable : 0 < n → Readable part ws
  pub enough : n ≤ length (listed at (ledger_in part ws))

-- The refusals before the ledger is looked at: the settings, the length, the moment and the shard's number.
abbrev pub call_refusal : Settings → Nanos → ℕ → List ℕ → ℕ
call_refusal s at i ws = first_refusal (set_up_refusal s ws) (first_refusal (moment_refusal at) (shard_refusal (shape_of s) i))

-- The plan by the ledger in a part: its listed debts are written.
abbrev pub plan_in : Part → Nanos → List ℕ → Plan
plan_in part at ws = record { part = part; count = length (listed at (ledger_in part ws)) }

-- The plan of a call that is not refused: by the ledger of the shard.
abbrev pub plan_of : Settings → Nanos → ℕ → List ℕ → Plan
plan_of s at i ws = plan_in (part_at (shape_of s) i) at ws
