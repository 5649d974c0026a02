-- `faults::of_letter` looks for a byte order mark first.
use mathlib.Core.Path.{sym, ◌∙◌}
use Rattle.desk_reasons.proofs.faults.of_letter.Goals as goal

pub returns-then-is_marked : goal.returns-then-is_marked
returns-then-is_marked c = rw (sym c.is_marked.ensures ∙ c.if-is_marked.true)

pub returns : goal.returns
returns c = rw (sym c.is_marked.ensures ∙ c.if-is_marked.false) c.seen.ensures
