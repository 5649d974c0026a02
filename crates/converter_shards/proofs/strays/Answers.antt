-- `strays` looks the item up by its own hash and key.
use Rattle.converter_shards.proofs.StrayLaws.{strayed_to, looked_up}
use mathlib.Core.Path.{◌∙◌}
use Rattle.converter_shards.proofs.strays.Goals as goal

pub returns-in-Some : goal.returns-in-Some
returns-in-Some c = strayed_to _ _ ∙ looked_up _ _ _ _ c.item_word-hash.ensures c.item_word-key.ensures c.find.ensures c.in-Some.is

pub returns-in-None : goal.returns-in-None
returns-in-None c = looked_up _ _ _ _ c.item_word-hash.ensures c.item_word-key.ensures c.find.ensures c.in-None.is
