-- `check_further` has a case for each kind of request.
use borrow.Author.Rules.{rules}
use Rattle.requests.proofs.check_further.Goals as goal

pub returns-in-Acquire : goal.returns-in-Acquire
returns-in-Acquire c = rw c.in-Acquire.is c.check_moment.ensures

pub returns-in-Reserve : goal.returns-in-Reserve
returns-in-Reserve c = rw c.in-Reserve.is c.check_reservation.ensures

pub returns-in-Through : goal.returns-in-Through
returns-in-Through c = rw c.in-Through.is c.check_moment-in-Through.ensures
