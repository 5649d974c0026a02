-- `count_unsettled` counts a debt where it is listed, and passes one that has settled.
use Rattle.std.proofs.Common.{◌≤◌, ◌<◌, length, ap, arith}
use Rattle.debt_calls.specs.code.Listing.{ledger_in}
use Rattle.debt_calls.proofs.ListingLaws.{listed_from_first, listed_past, listed_next, settled_passed}
use Rattle.debt_calls.proofs.count_unsettled.Goals as goal
use Rattle.debt_calls.proofs.count_unsettled.Goals.{then-at-settles, else-at-settles}

pub len-held-requires : goal.len-held-requires
len-held-requires c = c.requires.placed

pub load-requires : goal.load-requires
load-requires c = (c.requires.placed, omega (arith, c.requires.few, c.len-held.ensures))

pub loop-i-preserved : goal.loop-i-preserved
loop-i-preserved c =
    let a = c.args in
    let i = c.loop-i.i in
    let below : i < (ledger_in a.part a.ws.now).debts.count = omega (arith, c.len-held.ensures) in
    elim c.if-at-settles.branch [
      | then-at-settles w ↦ omega
          (arith, ap length (listed_next a.part a.ws.now a.at c.requires i below c.load.ensures w.if-at-settles.true))
      | else-at-settles w ↦ omega
          (arith, ap length (settled_passed a.part a.ws.now a.at c.requires i below c.load.ensures w.if-at-settles.false))
    ]

pub returns : goal.returns
returns c =
    let a = c.args in
    let i = c.loop-i.i in
    let over : (ledger_in a.part a.ws.now).debts.count ≤ i = omega (arith, c.len-held.ensures) in
    rw (← listed_from_first a.at (ledger_in a.part a.ws.now))
    (omega (arith, ap length (listed_past a.part a.ws.now a.at c.requires i over)))
