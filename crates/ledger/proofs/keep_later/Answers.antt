-- `keep_later` stores the debt that it loads with the later of the two moments.
use Rattle.ledger.proofs.keep_later.Goals as goal

pub returns : goal.returns
returns c = let put' = c.put in
    let max' = c.max in
    let load' = c.load-held in
    rw (put'.ensures, max'.ensures, load'.ensures)
