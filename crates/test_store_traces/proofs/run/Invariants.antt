use Rattle.std.proofs.Common.{◌≡◌, ◌-◌, length}
use Rattle.test_store_traces.proofs.run.Given as goal

abbrev pub invariant-loop-at : goal.invariant-loop-at
invariant-loop-at g l = length l.words ≡ length l.initial.words

abbrev pub decreases-loop-at : goal.decreases-loop-at
decreases-loop-at g l = length l.text - l.at
