-- `come_up` lends the words of the rows to the run, and then to the printing.
use Rattle.outage_run.proofs.StepLaws.{room_for_rows}
use Rattle.outage_run.proofs.StepLaws.{rows_came}
use Rattle.std.proofs.Common.{rules}
use Rattle.outage_run.proofs.come_up.Goals as goal

pub rows-requires : goal.rows-requires
rows-requires c = let run-in-store' = c.run_in_store in
    room_for_rows c.args.count c.args.at c.args.rs.now run-in-store'.new.rs c.requires.0 run-in-store'.auto.rs
    c.requires.1

pub returns : goal.returns
returns c = let run-in-store' = c.run_in_store in
    rows_came c.args.settings c.args.count c.args.at c.args.rs.now c.args.memory.now c.args.output.now
    run-in-store'.new.rs c.requires.0 run-in-store'.auto.rs run-in-store'.ensures c.rows.ensures
