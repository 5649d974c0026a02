-- `begins_with_v` looks at the first two bytes.
use Rattle.std.proofs.Common.{◌∙◌}
use Rattle.exercise_lines.proofs.RepeatLaws.{v_is_ahead}
use Rattle.exercise_lines.proofs.begins_with_v.Goals as goal

pub returns : goal.returns
returns c = c.starts_with.ensures.value ∙ v_is_ahead _
