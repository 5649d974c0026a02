-- `sweep_idle` goes by the idle time, as its definition does.
use Rattle.shard.proofs.sweep_idle.Goals as goal

pub returns-in_default : goal.returns-in_default
returns-in_default c = rw c.in_default.is

pub returns-in-Some : goal.returns-in-Some
returns-in-Some c = let sweep-idle' = c.sweep_idle in
    let idle-looks' = c.idle_looks in
    let idle-limit' = c.idle_limit-limit in
    rw (sweep-idle'.ensures, idle-looks'.ensures, idle-limit'.ensures, c.in-Some.is)
