-- `run_and_print` is the run of the rows that wait.
use Rattle.outage_run.proofs.StepLaws.{came_took}
use Rattle.std.proofs.Common.{rules}
use Rattle.outage_run.proofs.run_and_print.Goals as goal

pub returns : goal.returns
returns c = came_took c.args.settings c.args.feed c.args.rs.now c.args.memory.now c.args.output.now c.requires.1
    c.come_up-put.ensures _
