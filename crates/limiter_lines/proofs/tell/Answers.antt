-- `tell` goes by the number.
use Rattle.limiter_lines.proofs.LineLaws.{line_is_told, refusal_is_told}
use borrow.Author.Rules.{rules}
use Rattle.limiter_lines.proofs.tell.Goals as goal

pub returns-then-written-eq0 : goal.returns-then-written-eq0
returns-then-written-eq0 c = line_is_told _ c.if-written-eq0.true

pub returns : goal.returns
returns c = refusal_is_told _ c.if-written-eq0.false
