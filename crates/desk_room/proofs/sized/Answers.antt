-- `sized` has no idle time.
use Rattle.desk_room.proofs.sized.Goals as goal

pub returns : goal.returns
returns c = rw c.capacity.ensures
