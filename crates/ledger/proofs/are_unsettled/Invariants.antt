-- `are_unsettled` looks at the debts one by one. The loop holds that those from place i on are unsettled just where all are.
use Prim.Native.Nat.{ℕ, ◌-◌, ◌≤◌}
use mathlib.Core.Path.{◌≡◌}
use mathlib.Core.List.{List}
use Rattle.units.specs.declared.Nanos.{Nanos}
use Rattle.ledger.specs.Layout.{ledger}
use Rattle.ledger.specs.code.Row.{unsettled_before}
use Rattle.ledger.proofs.are_unsettled.Given as goal

pub record Looking (ws : List ℕ) (cap : ℕ) (at : Nanos) (end looks i : ℕ) : Type 0 where
  pub within : i ≤ end
  pub same : unsettled_before at (ledger cap ws) end (end - i) ≡ unsettled_before at (ledger cap ws) end looks

abbrev pub invariant-loop-i : goal.invariant-loop-i
invariant-loop-i l = Looking l.ws l.cap l.at l.end l.looks l.i

abbrev pub decreases-loop-i : goal.decreases-loop-i
decreases-loop-i l = l.end - l.i
