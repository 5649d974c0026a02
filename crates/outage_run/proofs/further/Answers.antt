-- `further` keeps the line as a row, or prints it past the last row, by the room that is left.
use Rattle.std.proofs.Common.{arith, rules}
use Rattle.outage_run.proofs.StepLaws.{took_as, past_is_further, row_is_further, row_took}
use Rattle.outage_run.specs.Run.{further_taken}
use Rattle.desk_lines.specs.Lines.{line_of}
use Rattle.outage_run.proofs.further.Goals as goal

pub returns-then-feed-eq0 : goal.returns-then-feed-eq0
returns-then-feed-eq0 c = took_as (further_taken c.args.settings c.args.number (line_of c.args.line.now))
    (past_is_further c.args.settings c.args.number (line_of c.args.line.now) _
    c.if-feed-eq0.true)
    c.past.ensures

pub returns : goal.returns
returns c = let if1' = c.if-feed-eq0 in
    took_as (further_taken c.args.settings c.args.number (line_of c.args.line.now))
    (row_is_further c.args.settings c.args.number (line_of c.args.line.now) _ (λ none. omega (arith, none, if1'.false)))
    (row_took c.args.feed c.args.number (line_of c.args.line.now) c.args.rs.now c.args.memory.now
    c.args.output.now (λ none. omega (arith, none, if1'.false))
    (rw c.read.ensures at c.row_of.ensures)
    c.keep.ensures.0)
