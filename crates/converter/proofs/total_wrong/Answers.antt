-- `total_wrong` compares the total with the sum, in the present layout.
use Rattle.converter.proofs.RefusalLaws.{total_compared}
use native.Mathlib.Omega.{arith}
use Rattle.converter.proofs.total_wrong.Goals as goal

pub len-requires : goal.len-requires
len-requires c = let free = rw c.in-Present.is at c.requires in omega (arith, free.in_shards.size)

pub all_slots-requires : goal.all_slots-requires
all_slots-requires c = rw c.in-Present.is at c.requires

pub returns-in-Present : goal.returns-in-Present
returns-in-Present c = rw c.in-Present.is (total_compared c.args.shards c.args.cap c.args.ws.now c.len.ensures c.all_slots.ensures)
