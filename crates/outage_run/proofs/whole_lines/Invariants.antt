-- `whole_lines` takes one line more with each turn of its loop, and stops where no line feed is left or the run has ended.
use Rattle.scan.specs.Bytes.{index_of}
use Rattle.std.proofs.Common.{◌≡◌, ◌+◌, ◌-◌, ◌<◌, length, drop, sym, ◌∙◌, arith, rules}
use Rattle.outage_run.proofs.FeedingLaws.{Underway, none_yet}
use Rattle.desk_cutting.proofs.UnderwayLaws.{none_left, rest_left, line_follows, none_follow, ended_is_over}
use Rattle.desk_cutting.proofs.WrittenLaws.{same_further}
use Rattle.desk_lines.proofs.FieldLaws.{found_from}
use Rattle.desk_lines.specs.Printed.{line_feed}
use Rattle.outage_run.proofs.whole_lines.Given as goal

abbrev pub invariant-loop-at : goal.invariant-loop-at
invariant-loop-at l = Underway l.initial.feed l.bytes l.initial.rs l.initial.memory l.initial.output l.feed l.at l.rs l.memory l.output

abbrev pub decreases-loop-at : goal.decreases-loop-at
decreases-loop-at l = length l.bytes - l.at
