-- src/lib.rt:79:28
use Rattle.lesson_writer.proofs.put_idle.Goals as goal

pub returns-in-Some : goal.returns-in-Some
returns-in-Some c = rw c.in-Some.is c.field.ensures

pub returns-in-None : goal.returns-in-None
returns-in-None c = rw c.in-None.is c.put_dash.ensures
