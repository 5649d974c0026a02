-- `scan::find` looks at each byte in turn: at each test of the loop, the first place from the start is the first place from here.
use Rattle.std.proofs.Common.{◌≡◌, ◌+◌}
use Rattle.scan.specs.Bytes.{index_of, slice}
use Rattle.scan.proofs.find.Given as goal

abbrev pub invariant-loop-at : goal.invariant-loop-at
invariant-loop-at l = l.from + index_of l.byte (slice l.from l.to l.bytes) ≡ l.at + index_of l.byte (slice l.at l.to l.bytes)
