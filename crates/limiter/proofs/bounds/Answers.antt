-- `bounds` goes by the flag of the idle time.
use Rattle.limiter.proofs.ExportedLaws.{idle_unset, idle_set}
use borrow.Author.Rules.{rules}
use Rattle.limiter.proofs.bounds.Goals as goal

pub returns-then-settings-eq0 : goal.returns-then-settings-eq0
returns-then-settings-eq0 c = rw (c.capacity.ensures, ← idle_unset _ _ c.if-settings-eq0.true)

pub returns-else-settings-eq0 : goal.returns-else-settings-eq0
returns-else-settings-eq0 c = rw (c.new.ensures, ← idle_set _ _ c.if-settings-eq0.false)
