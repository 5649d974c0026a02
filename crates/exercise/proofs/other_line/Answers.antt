-- The calls of a `v` line are within 64 bits.
use Rattle.exercise_lines.proofs.RepeatLaws.{read_is_within}
use Rattle.exercise.proofs.other_line.Goals as goal

pub repeated-requires : goal.repeated-requires
repeated-requires g c = rw c.in-Calls.is at (read_is_within _ c.read.ensures)
