-- src/lib.rt:333:19
use native.Mathlib.Omega.{arith}
use Rattle.ledger.proofs.ModelLaws.{intact_below, intact_cap}
use Rattle.ledger.proofs.write.Goals as goal

pub keep_later-requires : goal.keep_later-requires
keep_later-requires c = (c.requires.0, intact_below c.requires.0 (rw c.in-Some.is at c.requires.1))

pub append-requires : goal.append-requires
append-requires c = (c.requires.0, omega (arith, rw c.in-None.is at c.requires.1, intact_cap c.requires.0))

pub returns-in-Some : goal.returns-in-Some
returns-in-Some c = rw (c.keep_later.ensures, c.in-Some.is)

pub returns-in-None : goal.returns-in-None
returns-in-None c = rw (c.append.ensures, c.in-None.is)
