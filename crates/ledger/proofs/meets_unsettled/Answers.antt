-- `meets_unsettled` has one return for each case of its definition: no look, looks that go round, and a row of looks.
use native.Mathlib.Omega.{arith}
use Rattle.ledger.specs.Layout.{ledger}
use Rattle.ledger.proofs.ModelLaws.{intact_cap}
use Rattle.ledger.proofs.RowLaws.{no_look_meets, going_round_meets, row_meets, cursor_fits}
use Rattle.ledger.proofs.meets_unsettled.Goals as goal

pub returns-then-looks-eq0 : goal.returns-then-looks-eq0
returns-then-looks-eq0 c = no_look_meets _ _ _ c.if-looks-eq0.true

pub overflow_sub-count : goal.overflow_sub-count
overflow_sub-count c = let a = c.args in
    omega (arith, c.count.ensures, cursor_fits (ledger a.cap a.ws.now) c.requires.1)

pub returns-then-count-first : goal.returns-then-count-first
returns-then-count-first c = going_round_meets _ _ _ c.requires.1 c.count.ensures c.if-looks-eq0.false c.if-count-first.true

pub are_unsettled-requires : goal.are_unsettled-requires
are_unsettled-requires c = let intact = c.requires.0 in
    let count = c.count.ensures in (
      intact,
      omega arith,
      omega (arith, c.if-count-first.false, count, intact.sound.count_fits, intact_cap intact, cursor_fits (ledger c.args.cap c.args.ws.now) c.requires.1),
    )

pub returns : goal.returns
returns c = rw c.are_unsettled.ensures
    (row_meets _ _ _ c.requires.1 c.count.ensures c.if-looks-eq0.false (omega (arith, c.if-count-first.false)))
