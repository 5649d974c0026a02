-- `sweep_by_looks` makes its looks one by one. The loop holds that the looks left, made from here, give what all of them give from the start.
use Prim.Native.Nat.{◌-◌}
use Rattle.held.proofs.RoundLaws.{Sweeping}
use Rattle.ledger.specs.Model.{sweep}
use Rattle.ledger.specs.Layout.{ledger, Intact}
use Rattle.ledger.proofs.sweep_by_looks.Given as goal

abbrev pub invariant-loop : goal.invariant-loop
invariant-loop l = Sweeping (Intact l.cap) (ledger l.cap) (sweep l.at) l.budget l.initial.ws (l.budget - l.counter) l.ws

abbrev pub decreases-loop : goal.decreases-loop
decreases-loop l = l.budget - l.counter
