-- `evict_victim` goes by the victim, as its definition does.
use mathlib.Core.Path.{ap}
use Rattle.evict.specs.Evict.{place_of_victim}
use Rattle.evict.proofs.evict_victim.Goals as goal

pub evict_at-requires : goal.evict_at-requires
evict_at-requires c = (c.requires.0, rw (← ap place_of_victim c.in-Free.is) c.requires.2)

pub evict_owing-requires : goal.evict_owing-requires
evict_owing-requires c = let pre' = c.requires in
    (pre'.0, pre'.1, rw (← ap place_of_victim c.in-Owing.is) pre'.2)

pub returns-in-Free : goal.returns-in-Free
returns-in-Free c = rw (c.evict_at.ensures, c.in-Free.is)

pub returns-in-Owing : goal.returns-in-Owing
returns-in-Owing c = rw c.in-Owing.is c.evict_owing.ensures
