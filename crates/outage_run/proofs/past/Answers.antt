-- `past` runs and prints the rows, and then prints the line.
use Rattle.outage_run.proofs.StepLaws.{past_took}
use Rattle.std.proofs.Common.{arith, rules}
use Rattle.outage_run.proofs.past.Goals as goal

pub run_and_print-ran-requires : goal.run_and_print-ran-requires
run_and_print-ran-requires c = (omega (arith, c.requires.0), omega (arith, c.requires.1))

pub row-put-requires : goal.row-put-requires
row-put-requires c = omega (
  arith,
  c.run_and_print-ran.ensures.fits,
  c.requires.1,
)

pub returns : goal.returns
returns c = let start' =
    c in
    let run-and-print' = c.run_and_print-ran in
    past_took start'.args.settings start'.args.feed start'.args.rs.now start'.args.memory.now start'.args.output.now
    run-and-print'.ensures start'.requires.1 run-and-print'.auto.output start'.args.number
    (rw c.malformed.ensures at c.row-put.ensures)
