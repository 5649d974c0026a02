-- `due_reply` grants where there is no wait.
use Rattle.perkey.proofs.PeekLaws.{no_wait_is_granted, wait_is_told}
use Rattle.perkey.proofs.due_reply.Goals as goal

pub returns-then-due-eq0 : goal.returns-then-due-eq0
returns-then-due-eq0 c = no_wait_is_granted _ c.if-due-eq0.true

pub returns-else-due-eq0 : goal.returns-else-due-eq0
returns-else-due-eq0 c = wait_is_told _ c.if-due-eq0.false
