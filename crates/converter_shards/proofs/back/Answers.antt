-- `back` copies all but the seventh words and the indexes.
use mathlib.Core.Path.{◌∙◌}
use Rattle.converter_shards.proofs.ForthLaws.{after_back}
use Rattle.converter_shards.proofs.back.Goals as goal

pub returns : goal.returns
returns c = c.carry_shard.ensures ∙ after_back _ _ c.requires.0 c.requires.1
