-- `debts::owed_by` gives what the ledger's own function gives for its part of the words.
use Rattle.ledger.specs.Model as Ledger
use Rattle.ledger.proofs.OthersLaws.{owed_with_others}
use Rattle.shard_map.proofs.ModelLaws.{intact_ledger}
use Rattle.shard_map.proofs.LayoutLaws.{ledger_tells}
use Rattle.shard_map.proofs.debts.owed_by.Goals as goal

pub owed_by-requires : goal.owed_by-requires
owed_by-requires c = intact_ledger c.requires c.ledger_start-start.ensures

pub returns : goal.returns
returns c = ledger_tells _ _ c.requires.size c.ledger_start-start.ensures (λ m. Ledger.owed_by m c.args.hash) (λ m ws. owed_with_others m ws _)
    c.owed_by.ensures
