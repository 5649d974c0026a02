-- src/lib.rt:49:8
use Rattle.std.proofs.Common.{sym, ◌∙◌}
use Rattle.lesson_run.proofs.start.Goals as goal

pub returns-then-is_marked : goal.returns-then-is_marked
returns-then-is_marked c = rw (sym c.is_marked.ensures ∙ c.if-is_marked.true) c.start_at.ensures

pub returns : goal.returns
returns c = rw (sym c.is_marked.ensures ∙ c.if-is_marked.false) c.start_at-2.ensures
