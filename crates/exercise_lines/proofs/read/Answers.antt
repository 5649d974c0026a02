-- `read` looks at the beginning of the line first.
use mathlib.Core.Path.{sym, ◌∙◌}
use Rattle.exercise_lines.proofs.RepeatLaws.{v_has_two_bytes}
use Rattle.exercise_lines.specs.Repeats.{repeat_of}
use Rattle.exercise_lines.proofs.read.Goals as goal

pub of_bytes-requires : goal.of_bytes-requires
of_bytes-requires c = v_has_two_bytes _ (sym c.begins_with_v.ensures ∙ c.if-begins_with_v.true)

pub returns-then-begins_with_v : goal.returns-then-begins_with_v
unfolding repeat_of
returns-then-begins_with_v c = rw (← c.begins_with_v.ensures, c.if-begins_with_v.true) c.of_bytes.ensures

pub returns : goal.returns
unfolding repeat_of
returns c = rw (← c.begins_with_v.ensures, c.if-begins_with_v.false)
