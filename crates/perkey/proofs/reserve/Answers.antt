-- `reserve` tells what the attempt told, else what `finish` tells of what the attempt left.
use mathlib.Core.Path.{refl}
use Rattle.bucket.specs.declared.Request.TheVariants.{Reserve}
use Rattle.requests.proofs.FinishLaws.{attempt_is_told, left_may_be_finished, finished_is_told}
use borrow.Author.Rules.{rules}
use Rattle.perkey.proofs.reserve.Goals as goal

pub finish-requires : goal.finish-requires
finish-requires c = let a = c.args in
    left_may_be_finished (Reserve a.max_wait) a.settings a.at a.id a.cost a.ws.now _ refl c.attempt_reserve.ensures
    c.in-Left.is

pub returns-in-Answered : goal.returns-in-Answered
returns-in-Answered c = let a = c.args in
    attempt_is_told (Reserve a.max_wait) a.settings a.at a.id a.cost a.ws.now _ refl c.attempt_reserve.ensures
    c.in-Answered.is

pub returns-in-Left : goal.returns-in-Left
returns-in-Left c = let a = c.args in
    finished_is_told (Reserve a.max_wait) a.settings a.at a.id a.cost a.ws.now _ refl c.attempt_reserve.ensures
    c.in-Left.is c.finish.ensures
