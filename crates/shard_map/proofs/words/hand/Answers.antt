-- `words::hand` gives the hand as it is read: the second word below the first, else 0, as the definition's own test goes.
use Rattle.shard_map.proofs.LayoutLaws.{hand_read_below, hand_read_past}
use Rattle.shard_map.proofs.words.hand.Goals as goal

pub returns-then-hand-ws : goal.returns-then-hand-ws
returns-then-hand-ws c = hand_read_below _ _ c.if-hand-ws.true

pub returns-else-hand-ws : goal.returns-else-hand-ws
returns-else-hand-ws c = hand_read_past _ _ c.if-hand-ws.false
