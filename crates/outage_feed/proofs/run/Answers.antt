-- `run` goes on from before line 1.
use Rattle.outage_feed.proofs.RanLaws.{starts_at_line_1}
use Rattle.outage_feed.proofs.run.Goals as goal

pub returns : goal.returns
returns g c = rw (starts_at_line_1 c.args.input.now c.args.rs.now c.args.memory.now) at c.go_on.ensures
