-- `slot_count` goes by the layout.
use Rattle.converter.proofs.slot_count.Goals as goal

pub slot_count-requires : goal.slot_count-requires
slot_count-requires c = rw c.in-Old.is at c.requires

pub len-requires : goal.len-requires
len-requires c = rw c.in-Present.is at c.requires

pub returns-in-Old : goal.returns-in-Old
returns-in-Old c = rw c.in-Old.is c.slot_count.ensures

pub returns-in-Present : goal.returns-in-Present
returns-in-Present c = rw c.in-Present.is c.len.ensures
