-- `run_in_store` lends the words of the store, and puts back what the run leaves in them.
use Rattle.outage_run.proofs.StepLaws.{run_lent}
use Rattle.desk_answers.proofs.DeskLaws.{size_fits}
use Rattle.std.proofs.Common.{rules}
use Rattle.outage_run.proofs.run_in_store.Goals as goal

pub slice_bounds-run-end : goal.slice_bounds-run-end
slice_bounds-run-end c = rw c.store_size-size.ensures (size_fits _ _)

pub returns : goal.returns
returns c = let run' = c.run in
    run_lent c.args.settings c.args.rs.now c.args.memory.now run'.new.rs _
    c.store_size-size.ensures run'.ensures
