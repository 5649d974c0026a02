-- `of_fields` goes on by one field with each turn: the reason from there on is the reason from the first on.
use Rattle.desk_reasons.proofs.WalkLaws.{reason_from}
use mathlib.Core.Path.{◌≡◌}
use Prim.Native.Nat.{◌+◌, ◌-◌, ◌≤◌}
use lib.ListN.{length}
use Rattle.desk_reasons.proofs.of_fields.Given as goal

abbrev pub invariant-loop-at : goal.invariant-loop-at
invariant-loop-at l = (l.i ≤ l.at) × (l.i ≤ length l.line + 1) × (reason_from l.line l.letter l.at l.i ≡ reason_from l.line l.letter l.from 0)

abbrev pub decreases-loop-at : goal.decreases-loop-at
decreases-loop-at l = length l.line + 1 - l.at
