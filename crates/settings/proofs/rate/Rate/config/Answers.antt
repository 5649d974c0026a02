-- `Rate::config` is the configuration of the definition, field by field from what its two calls ensure.
use Rattle.settings.proofs.rate.Rate.config.Goals as goal

pub returns : goal.returns
returns c = rw (c.initial_tokens.ensures, c.capacity.ensures)
