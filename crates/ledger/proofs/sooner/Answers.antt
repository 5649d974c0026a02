-- `sooner` makes the test of its definition, on the moments that it reads.
use borrow.Author.Tests.{lt-ltb, le-ltb}
use Rattle.ledger.proofs.sooner.Goals as goal

pub returns-then-looked_settles-best_settles : goal.returns-then-looked_settles-best_settles
returns-then-looked_settles-best_settles c = let settles-at' = c.settles_at-looked_settles in
    let settles-at2' = c.settles_at-best_settles in
    let if1' = c.if-looked_settles-best_settles in
    let less = rw (settles-at'.ensures, settles-at2'.ensures) at if1'.true in
    rw (lt-ltb _ _ less)

pub returns-else-looked_settles-best_settles : goal.returns-else-looked_settles-best_settles
returns-else-looked_settles-best_settles c = let settles-at' = c.settles_at-looked_settles in
    let settles-at2' = c.settles_at-best_settles in
    let if1' = c.if-looked_settles-best_settles in
    let not-less = rw (settles-at'.ensures, settles-at2'.ensures) at if1'.false in
    rw (le-ltb _ _ not-less)
