-- `eviction` has a case for no idle time and one for an idle time.
use Rattle.desk_lines.proofs.eviction.Goals as goal

pub returns-in-None : goal.returns-in-None
returns-in-None c = rw (
  c.with_when_full.ensures,
  c.capacity.ensures,
  c.numbered-when_full.ensures,
  c.in-None.is,
)

pub returns-in-Some : goal.returns-in-Some
returns-in-Some c = rw (
  c.with_when_full-in-Some.ensures,
  c.new.ensures,
  c.numbered-when_full.ensures,
  c.in-Some.is,
)
