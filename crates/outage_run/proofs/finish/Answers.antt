-- `finish` runs the rows where line 1 was accepted, and does nothing else.
use Rattle.outage_run.specs.Run.{finished}
use Rattle.outage_run.proofs.StepLaws.{took_as, nothing_took, open_comes_up, first_finishes, ended_finishes}
use Rattle.std.proofs.Common.{rules}
use Rattle.outage_run.proofs.finish.Goals as goal

pub returns-in-First : goal.returns-in-First
returns-in-First c = nothing_took 0 finished _ _ _ _ (first_finishes _ c.in-First.is)

pub returns-in-Open : goal.returns-in-Open
returns-in-Open c = took_as finished (open_comes_up _ _ c.in-Open.is)
    c.run_and_print.ensures

pub returns-in-Ended : goal.returns-in-Ended
returns-in-Ended c = nothing_took 0 finished _ _ _ _ (ended_finishes _ _ c.in-Ended.is)
