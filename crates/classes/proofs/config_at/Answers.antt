-- `config_at` gives the configuration of an accepted rate, which 32 bits hold as it is.
use Rattle.classes.proofs.ChainLaws.{config_held}
use Rattle.settings.specs.Rate.{config_of}
use mathlib.Core.Path.{ap, ◌∙◌}
use Rattle.classes.proofs.config_at.Goals as goal

pub load_rate-rate-requires : goal.load_rate-rate-requires
load_rate-rate-requires c = c.requires.0

pub returns : goal.returns
returns c = c.config.ensures ∙ ap config_of c.load_rate-rate.ensures ∙ config_held _ _ c.requires.1
