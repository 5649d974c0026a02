-- `remove_from_index` has the index remove the slot, and the index lies in the words where `words::index` says.
use Rattle.shard_map.proofs.ModelLaws.{slots_fit, removed_from_index}
use Rattle.shard_map.proofs.remove_from_index.Goals as goal

pub remove-requires : goal.remove-requires
remove-requires c = let pre' = c.requires in
    rw (c.index.ensures, c.count-count.ensures) (slots_fit pre'.0, pre'.1)

pub returns : goal.returns
returns c = let pre' = c.requires in
    rw (c.remove.ensures, c.index.ensures, c.count-count.ensures) (removed_from_index pre'.0 _ pre'.1)
