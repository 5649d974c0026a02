-- `debts::take` does to the ledger's part of the words what the ledger's own function does, and nothing to the rest.
use Rattle.ledger.specs.Model as Ledger
use Rattle.ledger.proofs.OthersLaws.{taken_with_others}
use Rattle.shard_map.proofs.ModelLaws.{intact_ledger}
use Rattle.shard_map.proofs.LayoutLaws.{ledger_answers}
use Rattle.shard_map.proofs.debts.take.Goals as goal

pub take-requires : goal.take-requires
take-requires c = intact_ledger c.requires c.ledger_start-start.ensures

pub returns : goal.returns
returns c = let gave = c.take in
    ledger_answers _ _ c.requires.size c.ledger_start-start.ensures _ gave.auto.ws (λ m. Ledger.taken m c.args.hash)
    (λ m ws. taken_with_others m ws _) gave.ensures
