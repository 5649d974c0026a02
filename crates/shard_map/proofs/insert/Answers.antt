-- `insert` is the model's insertion: its calls make the same stores, in the same order.
use Rattle.shard_map.proofs.ModelLaws.{insert_by_stores}
use Rattle.shard_map.proofs.insert.Goals as goal

pub returns : goal.returns
returns c = rw (c.set_count.ensures, c.put.ensures, c.add_to_index.ensures, c.count-count.ensures) (insert_by_stores _ _)
