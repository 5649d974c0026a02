-- `fill` writes the first of the debts that are still to be written, and those after it are to be written next.
use Rattle.std.proofs.Common.{◌≡◌, ◌<◌, length, take, refl, sym, ap, ◌∙◌, arith}
use Rattle.rules.specs.Debts.{listed}
use Rattle.debt_calls.specs.code.Listing.{ledger_in, listed_from}
use Rattle.debt_calls.proofs.ListingLaws.{listed_from_first, writes_first, writes_next, writes_none, writes_over_first}
use Rattle.std.proofs.Math.Seq.{length-take-le}
use Rattle.debt_calls.proofs.fill.Goals as goal

pub loop-record-init : goal.loop-record-init
loop-record-init c = record {
  left = rw (listed_from_first c.args.at (ledger_in c.args.part c.args.ws.now)) (omega (arith, c.requires.0.enough));
  same = refl;
}

pub next_unsettled-unsettled-requires : goal.next_unsettled-unsettled-requires
next_unsettled-unsettled-requires c =
    let below : c.loop-record.record-index < c.args.n =
    omega (arith, c.loop-record-test.true, length-take-le c.args.n c.args.records.now c.requires.1) in
    (c.requires.0.readable (omega (arith, below)), omega (arith, c.loop-record.invariant.left, below))

pub loop-record-preserved : goal.loop-record-preserved
loop-record-preserved c =
    let a = c.args in
    let next = c.next_unsettled-unsettled.ensures in
    let below : c.loop-record.record-index < a.n = omega (arith, c.loop-record-test.true, length-take-le a.n a.records.now c.requires.1) in
    record {
      left = omega (arith, ap length next, c.loop-record.invariant.left);
      same = sym (writes_next a.n c.loop-record.record-index c.loop-record.record-items below next) ∙ c.loop-record.invariant.same;
    }

pub returns : goal.returns
returns c =
    let a = c.args in
    let led = ledger_in a.part a.ws.now in
    let all : c.loop-record.record-index ≡ a.n =
    omega (arith, c.loop-record-test.false, c.loop-record.auto.record-index-end, length-take-le a.n a.records.now c.requires.1) in
    let same = rw all at c.loop-record.invariant.same in
    writes_over_first a.n a.records.now (listed a.at led) c.requires.0.enough c.requires.1
    (sym (writes_none a.n c.loop-record.record-items (listed_from a.at led c.loop-record.from))
    ∙ same ∙ writes_first a.n (take a.n a.records.now) a.at led)
