-- `first` reads, serves and prints line 1, each as the callee's contract says.
use Rattle.desk_lines.specs.Lines.{line_of}
use Rattle.outage_run.proofs.StepLaws.{first_took}
use Rattle.std.proofs.Common.{rules}
use Rattle.outage_run.proofs.first.Goals as goal

pub returns : goal.returns
returns c = first_took c.args.feed c.args.number (line_of c.args.line.now) c.args.memory.now c.args.output.now
    c.requires (rw c.read.ensures at
    c.open-served.ensures) c.line-put.ensures
