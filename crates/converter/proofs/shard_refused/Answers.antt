-- `shard_refused` goes by the layout.
use Rattle.converter.proofs.shard_refused.Goals as goal

pub refused_old-requires : goal.refused_old-requires
refused_old-requires c = (rw c.in-Old.is at c.requires.0, rw c.in-Old.is at c.requires.2)

pub refused_now-requires : goal.refused_now-requires
refused_now-requires c = (rw c.in-Present.is at c.requires.0, c.requires.1, rw c.in-Present.is at c.requires.2)

pub returns-in-Old : goal.returns-in-Old
returns-in-Old c = rw c.in-Old.is c.refused_old.ensures

pub returns-in-Present : goal.returns-in-Present
returns-in-Present c = rw c.in-Present.is c.refused_now.ensures
