-- `time_to_full` is the recovery from a full bucket's parts: what its two calls ensure, in turn.
use Rattle.settings.proofs.rate.time_to_full.Goals as goal

pub returns : goal.returns
returns c = rw (c.recovery_of.ensures, c.full_parts.ensures)
