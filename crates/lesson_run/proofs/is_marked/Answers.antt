use Rattle.std.proofs.Common.{◌∙◌}
use Rattle.lesson_run.proofs.RunLaws.{mark_is_ahead}
use Rattle.lesson_run.proofs.is_marked.Goals as goal

pub returns : goal.returns
returns c = c.starts_with.ensures.value ∙ mark_is_ahead _
