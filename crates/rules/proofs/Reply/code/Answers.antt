-- `Reply::code` has a case for each reply.
use Rattle.rules.proofs.Reply.code.Goals as goal

pub returns-in-Refused : goal.returns-in-Refused
returns-in-Refused c = rw c.in-Refused.is
