-- `go_on` keeps the lengths of its buffers, holds no more than a line's beginning, and has come from where it stood over one read more with each turn; it ends
-- since it counts its turns.
use Rattle.std.proofs.Common.{◌-◌, ◌^◌}
use Rattle.desk_feed.proofs.RanLaws.{GoingOn}
use Rattle.desk_feed.proofs.go_on.Given as goal

abbrev pub invariant-loop-turns : goal.invariant-loop-turns
invariant-loop-turns g l =
    GoingOn l.initial.input l.initial.pending l.initial.output l.initial.memory l.initial.feed l.input l.pending l.output l.memory l.feed l.turns

abbrev pub decreases-loop-turns : goal.decreases-loop-turns
decreases-loop-turns g l = 2 ^ 64 - l.turns
