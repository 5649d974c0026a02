-- `tokens` goes by the flag.
use Rattle.limiter.proofs.ExportedLaws.{tokens_unset, tokens_set}
use Rattle.limiter.proofs.tokens.Goals as goal

pub returns-then-flag-eq0 : goal.returns-then-flag-eq0
returns-then-flag-eq0 c = tokens_unset _ _ c.if-flag-eq0.true

pub returns-else-flag-eq0 : goal.returns-else-flag-eq0
returns-else-flag-eq0 c = tokens_set _ _ c.if-flag-eq0.false
