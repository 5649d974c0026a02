-- `check_records` compares the records that are lent with those that are needed.
use mathlib.Core.Path.{sym}
use Rattle.rules.proofs.DebtLaws.{few_records_are_refused, records_are_accepted}
use Rattle.debt_calls.proofs.check_records.Goals as goal

pub returns-then-room-needed : goal.returns-then-room-needed
returns-then-room-needed c = sym (few_records_are_refused _ _ c.if-room-needed.true)

pub returns-else-room-needed : goal.returns-else-room-needed
returns-else-room-needed c = sym (records_are_accepted _ _ c.if-room-needed.false)
