-- `idle_limit` is the limit of the longer of the idle time and the time to be full: what its three calls ensure, in turn.
use Rattle.settings.proofs.idle_limit.Goals as goal

pub returns : goal.returns
returns c = rw (c.idle_limit_millis.ensures, c.max.ensures, c.time_to_full-least.ensures)
