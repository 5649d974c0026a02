-- `count_unsettled` has counted the debts before its place: with those listed from there on they are all that are listed.
use Prim.Native.Nat.{◌+◌, ◌≤◌}
use mathlib.Core.Path.{◌≡◌}
use lib.ListN.{length}
use Rattle.debt_calls.specs.code.Listing.{ledger_in, listed_from}
use Rattle.debt_calls.proofs.count_unsettled.Given as goal

abbrev pub invariant-loop-i : goal.invariant-loop-i
invariant-loop-i l =
    (l.count ≤ l.i) × (l.count + length (listed_from l.at (ledger_in l.part l.ws) l.i) ≡ length (listed_from l.at (ledger_in l.part l.ws) 0))
