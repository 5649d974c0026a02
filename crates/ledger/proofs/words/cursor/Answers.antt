-- `words::cursor` gives the cursor as it is read: the second word below the first, else 0, as the definition's own test goes.
use Rattle.ledger.proofs.LayoutLaws.{cursor_read_below, cursor_read_past}
use Rattle.ledger.proofs.words.cursor.Goals as goal

pub returns-then-cursor-ws : goal.returns-then-cursor-ws
returns-then-cursor-ws c = cursor_read_below _ _ c.if-cursor-ws.true

pub returns-else-cursor-ws : goal.returns-else-cursor-ws
returns-else-cursor-ws c = cursor_read_past _ _ c.if-cursor-ws.false
