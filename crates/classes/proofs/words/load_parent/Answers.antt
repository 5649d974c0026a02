-- `words::load_parent` gives the class above: the last two words of the class.
use Rattle.classes.proofs.LayoutLaws.{parent_read}
use mathlib.Core.Path.{◌∙◌}
use Rattle.classes.proofs.words.load_parent.Goals as goal

pub returns : goal.returns
returns c = c.parent.ensures ∙ parent_read _ _ c.requires
