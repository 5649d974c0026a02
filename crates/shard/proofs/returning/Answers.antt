-- `returning` goes by the debt that was taken out, as its definition does.
use Rattle.shard.proofs.returning.Goals as goal

pub returns-in-None : goal.returns-in-None
returns-in-None c = rw (c.new-fresh.ensures, c.in-None.is)

pub returns-in-Some : goal.returns-in-Some
returns-in-Some c = rw (c.restore_debt.ensures, c.new-fresh.ensures, c.in-Some.is)
