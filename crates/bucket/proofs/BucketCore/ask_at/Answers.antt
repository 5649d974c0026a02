-- `ask_at` meets its contract, by the two answers to a request.
use Rattle.bucket.proofs.BucketLaws.{grant_is_told, denial_is_told}
use native.Mathlib.Omega.{arith}
use Rattle.bucket.proofs.BucketCore.ask_at.Goals as goal

pub wait_for-own-requires : goal.wait_for-own-requires
wait_for-own-requires c = (c.requires.0, c.wanted_at-wanted.ensures)

-- Once it is known when the request is due.
pub returns-then-wait-longest : goal.returns-then-wait-longest
returns-then-wait-longest c = let stored = rw c.wanted_at-wanted.ensures at c.granted-bucket.ensures in
    grant_is_told _ _ _ _ _ c.wait_for-own.ensures c.wait_to-wait.ensures c.after-due.ensures stored
    (omega (arith, c.longest.ensures, c.if-wait-longest))

pub returns : goal.returns
returns c = denial_is_told _ _ _ _ _ c.wait_for-own.ensures c.wait_to-wait.ensures c.after-due.ensures c.turns_away.ensures
    (omega (arith, c.longest.ensures, c.if-wait-longest))
