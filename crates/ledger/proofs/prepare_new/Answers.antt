-- `prepare_new` is ready below the cap. At the cap it is ready if room was made.
use Prim.Native.Nat.{◌≤◌, ◌<◌}
use native.Mathlib.Omega.{arith}
use Rattle.std.proofs.lemmas.Result.{err_from_is_err_and}
use Rattle.ledger.specs.Layout.{ledger}
use Rattle.ledger.specs.Model.{cap_of}
use Rattle.ledger.proofs.ModelLaws.{intact_cap}
use Rattle.ledger.proofs.PreparedLaws.{prepared_free, prepared_full}
use Rattle.ledger.proofs.prepare_new.Goals as goal

-- Past the test the ledger is full, so it holds a debt.
full : (c : goal.In_ok-make_room) → let l = ledger c.args.cap c.args.ws.now in cap_of l ≤ l.debts.count
full c = omega (arith, intact_cap c.requires, c.count.ensures)

-- Past the test the ledger is full, so it holds a debt.
full_2 : (c : goal.After-from_residual) → let l = ledger c.args.cap c.args.ws.now in cap_of l ≤ l.debts.count
full_2 c = omega (arith, intact_cap c.requires, c.count.ensures)

-- Past the test the ledger is full, so it holds a debt.
full_3 : (c : goal.After-make_room-arg-1) → let l = ledger c.args.cap c.args.ws.now in cap_of l ≤ l.debts.count
full_3 c = omega (arith, intact_cap c.requires, c.count.ensures)

some : (c : goal.After-make_room-arg-1) → let a = c.args in 0 < (ledger a.cap a.ws.now).debts.count
some c = omega (arith, full_3 c, c.requires.sound.room)

pub returns-then-count-cap : goal.returns-then-count-cap
returns-then-count-cap c = prepared_free _ _ _ (omega (arith, c.if-count-cap.true, intact_cap c.requires, c.count.ensures))

pub make_room-requires : goal.make_room-requires
make_room-requires c = (c.requires, some c)

pub returns : goal.returns
returns c = prepared_full _ _ _ (full c) c.make_room.ensures c.in_ok-make_room.was

pub returns-in_err-make_room : goal.returns-in_err-make_room
returns-in_err-make_room c = let told = err_from_is_err_and c.from_residual.result c.from_residual.ensures.1 in
    rw (told.1, told.2) (prepared_full _ _ _ (full_2 c) c.make_room.ensures c.in_err-make_room.was)
