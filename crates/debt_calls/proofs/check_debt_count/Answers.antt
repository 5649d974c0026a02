-- `check_debt_count` compares the debt count with the room.
use mathlib.Core.Path.{sym}
use Rattle.rules.proofs.DebtLaws.{debt_count_over_is_refused, debt_count_is_accepted}
use Rattle.debt_calls.proofs.check_debt_count.Goals as goal

pub returns-then-part-len : goal.returns-then-part-len
returns-then-part-len c = sym (debt_count_over_is_refused _ _ (rw c.len.ensures at c.if-part-len.true))

pub returns-else-part-len : goal.returns-else-part-len
returns-else-part-len c = sym (debt_count_is_accepted _ _ (rw c.len.ensures at c.if-part-len.false))
