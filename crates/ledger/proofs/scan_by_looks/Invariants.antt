-- `scan_by_looks` looks for a debt to drop. The loop holds that the looks left, made from here, choose and leave what all of them do from the start.
use mathlib.Core.Path.{◌≡◌}
use mathlib.Core.List.{List}
use lib.ListN.{length}
use Prim.Native.Nat.{ℕ, ◌-◌, ◌<◌}
use Rattle.units.specs.declared.Nanos.{Nanos}
use Rattle.ledger.specs.Layout.{ledger, Intact}
use Rattle.ledger.specs.Model.{scan, scan_from}
use Rattle.ledger.proofs.scan_by_looks.Given as goal

-- The scan from here, with the looks that are left, is the scan from the start; the words are as long as then, and the soonest so far is a debt that is held.
pub record Scanning (ws₀ : List ℕ) (cap : ℕ) (at : Nanos) (ws : List ℕ) (left best : ℕ) : Type 0 where
  pub intact : Intact cap ws
  pub long : length ws ≡ length ws₀
  pub some : 0 < (ledger cap ws).debts.count
  pub below : best < (ledger cap ws).debts.count
  pub same : scan_from at left (ledger cap ws) best ≡ scan at (ledger cap ws₀)

abbrev pub invariant-loop : goal.invariant-loop
invariant-loop l = Scanning l.initial.ws l.cap l.at l.ws (l.looks - l.counter) l.best

abbrev pub decreases-loop : goal.decreases-loop
decreases-loop l = l.looks - l.counter
