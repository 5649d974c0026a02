-- `words::sweep` gives the sweep as it is read: the third word below the first, else 0, as the definition's own test goes.
use Rattle.shard_map.proofs.LayoutLaws.{sweep_read_below, sweep_read_past}
use Rattle.shard_map.proofs.words.sweep.Goals as goal

pub returns-then-sweep-ws : goal.returns-then-sweep-ws
returns-then-sweep-ws c = sweep_read_below _ _ c.if-sweep-ws.true

pub returns-else-sweep-ws : goal.returns-else-sweep-ws
returns-else-sweep-ws c = sweep_read_past _ _ c.if-sweep-ws.false
