-- `add_to_index` has the index add the debt, and the index lies in the words where `words::index` says.
use native.Mathlib.Omega.{arith}
use Rattle.ledger.proofs.ModelLaws.{debts_fit, added_to_index}
use Rattle.ledger.proofs.add_to_index.Goals as goal

pub add-requires : goal.add-requires
add-requires c = let pre' = c.requires in
    let fit = debts_fit pre'.0 in
    rw c.index.ensures (fit.room, fit.inside, omega (arith, pre'.0.size))

pub returns : goal.returns
returns c = rw (c.add.ensures, c.index.ensures) (added_to_index c.requires.0 _ _)
