-- `limiter_modem_identity` tells what `identify` of `modems` gives, case by case.
use borrow.Author.Rules.{rules}
use Rattle.limiter_modems.specs.IdentityTold.{told_identity}
use Rattle.limiter_modems.proofs.limiter_modem_identity.Goals as goal

pub returns-in-Err : goal.returns-in-Err
unfolding told_identity
returns-in-Err c = rw (← c.identify.ensures, c.from.ensures, c.in-Err.is)

pub returns-in-Ok : goal.returns-in-Ok
unfolding told_identity
returns-in-Ok c = rw (← c.identify.ensures, c.in-Ok.is)
