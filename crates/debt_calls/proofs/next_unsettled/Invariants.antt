-- `next_unsettled` passes settled debts: what is listed from its place on stays the same.
use Prim.Native.Nat.{◌-◌, ◌<◌}
use mathlib.Core.Path.{◌≡◌}
use lib.ListN.{length}
use Rattle.debt_calls.specs.code.Listing.{ledger_in, listed_from}
use Rattle.debt_calls.proofs.next_unsettled.Given as goal

abbrev pub invariant-loop-part : goal.invariant-loop-part
invariant-loop-part l = (0 < length (listed_from l.at (ledger_in l.part l.ws) l.i))
    × (listed_from l.at (ledger_in l.part l.ws) l.from ≡ listed_from l.at (ledger_in l.part l.ws) l.i)

abbrev pub decreases-loop-part : goal.decreases-loop-part
decreases-loop-part l = l.part.cap - l.i
