-- src/lib.rt:206:28
use Rattle.lesson_lines.proofs.idle_size.Goals as goal

pub returns-in-Some : goal.returns-in-Some
returns-in-Some c = rw c.in-Some.is c.field_size.ensures
