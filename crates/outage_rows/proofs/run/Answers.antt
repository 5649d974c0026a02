-- `run` runs as many rows as there are words for.
use Rattle.outage_rows.proofs.TryLaws.{run_of_all}
use Rattle.outage_rows.proofs.run.Goals as goal

pub run_rows-requires : goal.run_rows-requires
run_rows-requires c = c.count-n.ensures.1

pub returns : goal.returns
returns c = let run-rows' = c.run_rows in
    run_of_all _ _ _ _ _ _ run-rows'.auto.rs c.count-n.ensures.0 run-rows'.ensures
