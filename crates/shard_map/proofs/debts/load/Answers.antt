-- `debts::load` gives what the ledger's own function gives for its part of the words.
use mathlib.Core.Path.{refl}
use Rattle.ledger.specs.Model as Ledger
use Rattle.shard_map.proofs.LayoutLaws.{ledger_long, ledger_tells}
use Rattle.shard_map.proofs.debts.load.Goals as goal

pub load-requires : goal.load-requires
load-requires c = (ledger_long _ c.args.ws.now c.requires.0 c.ledger_start-start.ensures, c.requires.1)

pub returns : goal.returns
returns c = ledger_tells _ _ c.requires.0 c.ledger_start-start.ensures (λ m. Ledger.debt_at m c.args.i) (λ m ws. refl) c.load.ensures
