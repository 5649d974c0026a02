-- `debts::sweep` does to the ledger's part of the words what the ledger's own function does, and nothing to the rest.
use Rattle.ledger.specs.Model as Ledger
use Rattle.ledger.proofs.OthersLaws.{sweep_with_others}
use Rattle.shard_map.proofs.ModelLaws.{intact_ledger}
use Rattle.shard_map.proofs.LayoutLaws.{ledger_leaves}
use Rattle.shard_map.proofs.debts.sweep.Goals as goal

pub sweep-requires : goal.sweep-requires
sweep-requires c = intact_ledger c.requires c.ledger_start-start.ensures

pub returns : goal.returns
returns c = let gave = c.sweep in
    ledger_leaves _ _ c.requires.size c.ledger_start-start.ensures _ gave.auto.ws (Ledger.sweep _ _) (λ m ws. sweep_with_others m ws _ _) gave.ensures
