-- `look` does what the definition does at the cursor, for a settled debt and for an unsettled one.
use Prim.Native.Nat.{◌<◌}
use native.Mathlib.Omega.{arith}
use Rattle.ledger.specs.Layout.{ledger}
use Rattle.ledger.proofs.ModelLaws.{look_settled, look_unsettled, intact_cursor, intact_after}
use Rattle.ledger.proofs.look.Goals as goal

-- The cursor stands at a debt, below the cap.
held : (c : goal.After-cursor-cursor) → let a = c.args in (c.cursor-cursor.result < (ledger a.cap a.ws.now).debts.count) × (c.cursor-cursor.result < a.cap)
held c = intact_cursor c.requires.0 c.requires.1 c.cursor-cursor.ensures

-- The cursor stands at a debt, below the cap.
held_2 : (c : goal.After-remove_at-arg-1) → let a = c.args in (c.cursor-cursor.result < (ledger a.cap a.ws.now).debts.count) × (c.cursor-cursor.result < a.cap)
held_2 c = intact_cursor c.requires.0 c.requires.1 c.cursor-cursor.ensures

-- The cursor stands at a debt, below the cap.
held_3 : (c : goal.After-set_cursor-arg-else-settles-at-1) → let a =
    c.args in (c.cursor-cursor.result < (ledger a.cap a.ws.now).debts.count) × (c.cursor-cursor.result < a.cap)
held_3 c = intact_cursor c.requires.0 c.requires.1 c.cursor-cursor.ensures

pub settles_at-settles-requires : goal.settles_at-settles-requires
settles_at-settles-requires c = (c.requires.0.size, (held c).1)

pub remove_at-requires : goal.remove_at-requires
remove_at-requires c = let intact = c.requires.0 in
    let still-intact = intact_after intact c.set_cursor.auto.ws c.set_cursor.ensures intact.sound in
    (still-intact, rw c.set_cursor.ensures (held_2 c).0)

pub overflow_add-cursor : goal.overflow_add-cursor
overflow_add-cursor c = omega (arith, (held_3 c).1)

pub returns-then-settles-at : goal.returns-then-settles-at
returns-then-settles-at c = let settled = rw (c.settles_at-settles.ensures, c.cursor-cursor.ensures) at c.if-settles-at.true in
    rw (c.remove_at.ensures, c.set_cursor.ensures, c.cursor-cursor.ensures) (look_settled _ _ c.requires.1 settled)

pub returns-else-settles-at : goal.returns-else-settles-at
returns-else-settles-at c = let unsettled = rw (c.settles_at-settles.ensures, c.cursor-cursor.ensures) at c.if-settles-at.false in
    rw (c.set_cursor-else-settles-at.ensures, c.cursor-cursor.ensures) (look_unsettled _ _ c.requires.1 unsettled)
