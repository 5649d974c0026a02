-- `move_shard` goes by the layout.
use Rattle.converter.proofs.move_shard.Goals as goal

pub forth-requires : goal.forth-requires
forth-requires c = (
  record { size = rw c.in-Old.is at c.requires.0; fits = rw c.in-Old.is at c.requires.3 },
  rw c.in-Old.is at c.requires.1,
  c.requires.2,
)

pub back-requires : goal.back-requires
back-requires c = (rw c.in-Present.is at c.requires.0, rw c.in-Present.is at c.requires.1)

pub returns-in-Old : goal.returns-in-Old
returns-in-Old c = rw c.in-Old.is c.forth.ensures

pub returns-in-Present : goal.returns-in-Present
returns-in-Present c = rw c.in-Present.is c.back.ensures
