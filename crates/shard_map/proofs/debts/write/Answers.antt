-- `debts::write` does to the ledger's part of the words what the ledger's own function does, and nothing to the rest.
use Rattle.ledger.specs.code.Prepared.{written}
use Rattle.ledger.proofs.OthersLaws.{written_with_others, writable_with_others}
use Rattle.held.specs.Layout.{index_words}
use Rattle.shard_map.specs.Layout.{shard}
use Rattle.shard_map.proofs.ModelLaws.{intact_ledger}
use Rattle.shard_map.proofs.LayoutLaws.{ledger_leaves, ledger_lent}
use Rattle.shard_map.proofs.debts.write.Goals as goal

pub write-requires : goal.write-requires
write-requires c = let pre' = c.requires in
    let is = c.ledger_start-start.ensures in
    let a = c.args in
    let s = shard a.cap a.ws.now in
    let may = writable_with_others s.ledger (index_words s.slots.finding) a.place pre'.1 in
    (intact_ledger pre'.0 is, rw (ledger_lent _ _ pre'.0.size is) may)

pub returns : goal.returns
returns c = let gave = c.write in
    let a = c.args in
    ledger_leaves _ _ c.requires.0.size c.ledger_start-start.ensures _ gave.auto.ws (λ m. written m a.place a.debt)
    (λ m ws. written_with_others m ws a.place a.debt) gave.ensures
