-- `limit` goes by the flag.
use Rattle.limiter.proofs.ExportedLaws.{has_rate, has_no_rate}
use borrow.Author.Rules.{rules}
use Rattle.limiter.proofs.limit.Goals as goal

pub returns-then-settings-eq0 : goal.returns-then-settings-eq0
returns-then-settings-eq0 c = rw c.rate.ensures (has_rate c.args.settings c.if-settings-eq0.true)

pub returns-else-settings-eq0 : goal.returns-else-settings-eq0
returns-else-settings-eq0 c = has_no_rate c.args.settings c.if-settings-eq0.false
