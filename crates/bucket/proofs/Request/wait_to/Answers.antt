-- `wait_to` has a case for each kind of request.
use Rattle.bucket.proofs.Request.wait_to.Goals as goal

pub returns-in-Through : goal.returns-in-Through
returns-in-Through c = rw c.in-Through.is c.max.ensures
