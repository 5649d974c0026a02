-- `check_total` compares the total with the room.
use Rattle.store.proofs.RefusalLaws.{total_over_is_refused, total_is_accepted}
use mathlib.Core.Path.{sym}
use Rattle.store.proofs.refusals.check_total.Goals as goal

pub returns-then-room-total : goal.returns-then-room-total
returns-then-room-total c = sym (total_over_is_refused _ _ c.if-room-total.true)

pub returns-else-room-total : goal.returns-else-room-total
returns-else-room-total c = sym (total_is_accepted _ _ c.if-room-total.false)
