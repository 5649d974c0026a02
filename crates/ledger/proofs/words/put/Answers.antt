-- `words::put` changes debt i alone: it stores the two words of its row.
use native.Mathlib.Numerals.{add-one}
use lib.ListN.{length-set}
use native.Mathlib.Omega.{arith}
use Rattle.ledger.proofs.LayoutLaws.{debt_put}
use Rattle.ledger.proofs.words.put.Goals as goal

pub bounds-ws-first-2 : goal.bounds-ws-first-2
bounds-ws-first-2 c = simp length-set (omega arith)

pub returns : goal.returns
returns c = let pre' = c.requires in
    rw add-one (debt_put _ _ pre'.0 _ _ pre'.1)
