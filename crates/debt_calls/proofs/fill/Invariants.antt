-- `fill` has written the records before its place: they and those that are still to be written are all.
use Rattle.std.proofs.Common.{◌≡◌, ◌+◌, ◌≤◌, length, take}
use Rattle.debt_calls.specs.code.Listing.{ledger_in, listed_from}
use Rattle.debt_calls.proofs.ListingLaws.{to_write}
use Rattle.debt_calls.proofs.fill.Given as goal

abbrev pub invariant-loop-record : goal.invariant-loop-record
invariant-loop-record l = record {
  left : l.n ≤ l.record-index + length (listed_from l.at (ledger_in l.part l.ws) l.from);
  same : to_write l.n l.record-index l.record-items (listed_from l.at (ledger_in l.part l.ws) l.from)
      ≡ to_write l.n 0 (take l.n l.fn.records) (listed_from l.at (ledger_in l.part l.ws) 0);
}
