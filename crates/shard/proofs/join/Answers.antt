-- `join` makes the calls that the definition names, one after the other.
use Rattle.shard.proofs.join.Goals as goal

pub returns : goal.returns
returns c = let insert' = c.insert in
    let asked' = c.asked in
    let new' = c.new-slot in
    let millis' = c.millis in
    let ask-at' = c.ask_at-asked in
    let returning' = c.returning-returned in
    rw (insert'.ensures, asked'.ensures, new'.ensures, millis'.ensures, ask-at'.ensures, returning'.ensures)
