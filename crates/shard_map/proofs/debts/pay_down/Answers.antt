-- `debts::pay_down` does to the ledger's part of the words what the ledger's own function does, and nothing to the rest.
use Rattle.ledger.specs.Model as Ledger
use Rattle.ledger.proofs.OthersLaws.{paid_with_others}
use Rattle.shard_map.proofs.ModelLaws.{intact_ledger}
use Rattle.shard_map.proofs.LayoutLaws.{ledger_answers}
use Rattle.shard_map.proofs.debts.pay_down.Goals as goal

pub pay_down-requires : goal.pay_down-requires
pay_down-requires c = (intact_ledger c.requires.0 c.ledger_start-start.ensures, c.requires.1)

pub returns : goal.returns
returns c = let gave = c.pay_down in
    let a = c.args in
    ledger_answers _ _ c.requires.0.size c.ledger_start-start.ensures _ gave.auto.ws
    (λ m. Ledger.paid_down m a.hash a.cost a.config)
    (λ m ws. paid_with_others m ws _ _ _)
    gave.ensures
