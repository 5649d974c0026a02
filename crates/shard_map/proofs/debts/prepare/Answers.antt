-- `debts::prepare` does to the ledger's part of the words what the ledger's own function does, and nothing to the rest.
use Rattle.ledger.specs.code.Prepared.{prepared}
use Rattle.ledger.proofs.OthersLaws.{prepared_with_others}
use Rattle.shard_map.proofs.ModelLaws.{intact_ledger}
use Rattle.shard_map.proofs.LayoutLaws.{ledger_answers}
use Rattle.shard_map.proofs.debts.prepare.Goals as goal

pub prepare-requires : goal.prepare-requires
prepare-requires c = intact_ledger c.requires c.ledger_start-start.ensures

pub returns : goal.returns
returns c = let gave = c.prepare in
    let a = c.args in
    ledger_answers _ _ c.requires.size c.ledger_start-start.ensures _ gave.auto.ws
    (λ m. prepared m a.hash a.at a.forget)
    (λ m ws. prepared_with_others m ws _ _ _)
    gave.ensures
