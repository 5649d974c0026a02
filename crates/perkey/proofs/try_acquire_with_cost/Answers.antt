-- `try_acquire_with_cost` tells what the attempt told, else what `finish` tells of what the attempt left.
use mathlib.Core.Path.{refl}
use Rattle.bucket.specs.declared.Request.TheVariants.{Acquire}
use Rattle.requests.proofs.FinishLaws.{attempt_is_told, left_may_be_finished, finished_is_told}
use borrow.Author.Rules.{rules}
use Rattle.perkey.proofs.try_acquire_with_cost.Goals as goal

pub finish-requires : goal.finish-requires
finish-requires c = let a = c.args in
    left_may_be_finished Acquire a.settings a.at a.id a.cost a.ws.now _ refl c.attempt_try.ensures c.in-Left.is

pub returns-in-Answered : goal.returns-in-Answered
returns-in-Answered c = let a = c.args in
    attempt_is_told Acquire a.settings a.at a.id a.cost a.ws.now _ refl c.attempt_try.ensures c.in-Answered.is

pub returns-in-Left : goal.returns-in-Left
returns-in-Left c = let a = c.args in
    finished_is_told Acquire a.settings a.at a.id a.cost a.ws.now _ refl c.attempt_try.ensures c.in-Left.is
    c.finish.ensures
