-- `Reply::told` is the three numbers of the reply.
use Rattle.rules.proofs.Reply.told.Goals as goal

pub returns : goal.returns
returns c = rw (c.code.ensures, c.number.ensures, c.moment.ensures)
