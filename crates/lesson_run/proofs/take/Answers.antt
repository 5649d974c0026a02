use Rattle.lesson_run.proofs.take.Goals as goal

pub calls-requires : goal.calls-requires
calls-requires c = let line = c.in-Ok-Calls in rw (rw line.is at line.field-0-is) at (rw line.is at c.requires.1)
