-- `position` looks the hash and the key up in the index: the slots lie before it, and a slot has its key in the second word.
use Rattle.shard_map.proofs.ModelLaws.{slots_fit, found_in_index}
use Rattle.shard_map.proofs.position.Goals as goal

pub find-requires : goal.find-requires
find-requires c = rw (c.index.ensures, c.count-count.ensures) (slots_fit c.requires)

pub returns : goal.returns
returns c = rw (c.find.ensures, c.index.ensures, c.count-count.ensures) (found_in_index c.requires _ _)
