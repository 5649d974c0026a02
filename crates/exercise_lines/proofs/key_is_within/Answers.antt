-- `key_is_within` compares with what is left up to 64 bits.
use native.Mathlib.Omega.{arith}
use Rattle.exercise_lines.proofs.RepeatLaws.{key_by_difference}
use Rattle.exercise_lines.proofs.key_is_within.Goals as goal

pub returns : goal.returns
returns c = key_by_difference c.args.key c.args.place (omega arith)
