-- `debts::record` does to the ledger's part of the words what the ledger's own function does, and nothing to the rest.
use Rattle.ledger.specs.Model as Ledger
use Rattle.ledger.proofs.OthersLaws.{recorded_with_others}
use Rattle.shard_map.proofs.ModelLaws.{intact_ledger}
use Rattle.shard_map.proofs.LayoutLaws.{ledger_answers}
use Rattle.shard_map.proofs.debts.record.Goals as goal

pub record-requires : goal.record-requires
record-requires c = intact_ledger c.requires c.ledger_start-start.ensures

pub returns : goal.returns
returns c = let gave = c.«record» in
    let a = c.args in
    ledger_answers _ _ c.requires.size c.ledger_start-start.ensures _ gave.auto.ws
    (λ m. Ledger.recorded m a.debt a.at a.forget)
    (λ m ws. recorded_with_others m ws _ _ _)
    gave.ensures
