-- `sweep` makes the two sweeps in the order of the definition. The idle sweep leaves the words lent.
use Rattle.shard.proofs.ModelLaws.{intact_after_idle_sweep}
use Rattle.shard.proofs.sweep.Goals as goal

pub sweep-requires : goal.sweep-requires
sweep-requires c = let sweep-idle' = c.sweep_idle in
    let args' = c.args in
    let pre' = c.requires in
    intact_after_idle_sweep pre'.0 sweep-idle'.auto.ws args'.policy args'.at sweep-idle'.ensures

pub returns : goal.returns
returns c = let ledger-looks' = c.ledger_looks in
    let sweep-idle' = c.sweep_idle in
    rw (c.sweep.ensures, ledger-looks'.ensures, sweep-idle'.ensures)
