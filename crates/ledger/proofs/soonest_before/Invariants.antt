-- `soonest_before` looks at the debts one by one. The loop holds that the soonest of those from place i on and of the best so far is the soonest of all.
use Prim.Native.Nat.{ℕ, ◌-◌, ◌≤◌, ◌<◌}
use mathlib.Core.Path.{◌≡◌}
use mathlib.Core.List.{List}
use Rattle.ledger.specs.Layout.{ledger}
use Rattle.ledger.specs.code.Row.{soonest_before}
use Rattle.ledger.proofs.soonest_before.Given as goal

pub record Looking (ws : List ℕ) (cap end looks best i : ℕ) : Type 0 where
  pub within : i ≤ end
  pub below : best < cap
  pub same : soonest_before (ledger cap ws) end (end - i) best ≡ soonest_before (ledger cap ws) end looks (end - looks)

abbrev pub invariant-loop-i : goal.invariant-loop-i
invariant-loop-i l = Looking l.ws l.cap l.end l.looks l.best l.i

abbrev pub decreases-loop-i : goal.decreases-loop-i
decreases-loop-i l = l.end - l.i
