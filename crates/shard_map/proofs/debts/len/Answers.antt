-- `debts::len` gives what the ledger's own function gives for its part of the words.
use mathlib.Core.Path.{refl}
use Rattle.shard_map.proofs.LayoutLaws.{ledger_long, ledger_tells}
use Rattle.shard_map.proofs.debts.len.Goals as goal

pub len-requires : goal.len-requires
len-requires c = ledger_long _ c.args.ws.now c.requires c.ledger_start-start.ensures

pub returns : goal.returns
returns c = ledger_tells _ _ c.requires c.ledger_start-start.ensures (λ m. m.debts.count) (λ m ws. refl) c.len.ensures
