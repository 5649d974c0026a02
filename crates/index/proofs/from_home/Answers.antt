-- `from_home` counts the steps from the home of the item that the word names, if it names one.
use Rattle.std.proofs.Common.{mod-lt}
use Rattle.index.proofs.TrailLaws.{from_home_lem, from_no_home}
use Rattle.index.proofs.from_home.Goals as goal

pub home-home-requires : goal.home-home-requires
home-home-requires c = c.requires.0.room

pub steps-requires : goal.steps-requires
steps-requires c = (rw c.home-home.ensures (mod-lt _ c.requires.0.room), c.requires.1)

pub returns-then-word-n : goal.returns-then-word-n
returns-then-word-n c = rw (c.steps.ensures, c.home-home.ensures, c.item_word.ensures) (from_home_lem _ _ _ _ _ c.if-word-n.true)

pub returns : goal.returns
returns c = from_no_home _ _ _ _ _ c.if-word-n.false
