-- `take_line` goes by how the run stands.
use Rattle.outage_run.proofs.StepLaws.{took_as, first_is_line, further_is_line, nothing_took, ended_takes_none}
use Rattle.outage_run.specs.Run.{line_taken}
use Rattle.std.proofs.Common.{rules}
use Rattle.outage_run.proofs.take_line.Goals as goal

pub returns-in-First : goal.returns-in-First
returns-in-First c = took_as (line_taken c.args.line.now) (first_is_line c.args.line.now _ c.in-First.is) (c.first.ensures c.args.rs.now)

pub returns-in-Open : goal.returns-in-Open
returns-in-Open c = took_as (line_taken c.args.line.now) (further_is_line c.args.line.now _ _ c.in-Open.is) c.further.ensures

pub returns-in-Ended : goal.returns-in-Ended
returns-in-Ended c = nothing_took 1 (line_taken c.args.line.now) c.args.feed c.args.rs.now c.args.memory.now c.args.output.now
    (ended_takes_none c.args.line.now _ _ c.in-Ended.is)
