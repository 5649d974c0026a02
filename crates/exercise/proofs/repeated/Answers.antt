-- Every call before the last one is within 64 bits.
use Rattle.std.proofs.Common.{arith}
use Rattle.exercise_lines.proofs.RepeatLaws.{call_before}
use Rattle.exercise.proofs.repeated.Goals as goal

pub call_on-requires : goal.call_on-requires
call_on-requires g c = call_before _ _ _ (omega arith) _ c.requires
