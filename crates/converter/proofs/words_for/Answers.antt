-- `words_for` are the words before the shard that there is no more.
use Rattle.converter.proofs.ShardLaws.{words_few}
use Rattle.converter.proofs.words_for.Goals as goal

pub start_of-requires : goal.start_of-requires
start_of-requires c = rw c.shape-shape.ensures (words_few c.args.layout c.args.settings c.requires)

pub returns : goal.returns
returns c = rw (c.start_of.ensures, c.shape-shape.ensures)
