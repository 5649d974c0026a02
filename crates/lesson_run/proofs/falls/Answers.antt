-- src/lib.rt:213:9
use Rattle.std.proofs.Common.{le-ltb, lt-ltb}
use Rattle.lesson_run.proofs.falls.Goals as goal

pub returns-then-moment-clock : goal.returns-then-moment-clock
returns-then-moment-clock c = rw (lt-ltb _ _ c.if-moment-clock.true)

pub returns : goal.returns
returns c = rw (le-ltb _ _ c.if-moment-clock.false)
