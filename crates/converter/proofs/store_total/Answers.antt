-- `store_total` stores the sum of the slots going forth, and nothing going back.
use native.Mathlib.Omega.{arith}
use Rattle.converter.proofs.store_total.Goals as goal

pub all_slots-slots-requires : goal.all_slots-slots-requires
all_slots-slots-requires c = rw c.in-Old.is at c.requires.0

pub bounds-target-0 : goal.bounds-target-0
bounds-target-0 c = let held = rw c.in-Old.is at c.requires.1 in omega (arith, held.size)

pub returns-in-Old : goal.returns-in-Old
returns-in-Old c = rw (c.in-Old.is, c.all_slots-slots.ensures)
