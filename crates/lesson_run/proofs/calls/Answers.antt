-- src/lib.rt:195:55
use Rattle.lesson_run.proofs.calls.Goals as goal

pub call_on-last-requires : goal.call_on-last-requires
call_on-last-requires c = rw c.last.ensures c.requires

pub returns : goal.returns
returns c = rw (
  c.falls.ensures,
  c.moment_in-2.ensures,
  c.moment_in.ensures,
  c.call_on-last.ensures,
  c.last.ensures,
) at c.quiet.ensures
