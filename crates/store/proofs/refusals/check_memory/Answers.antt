-- `check_memory` compares the length with the words that are asked for.
use Rattle.store.proofs.RefusalLaws.{length_is_accepted, other_length_is_refused}
use mathlib.Core.Path.{sym}
use Rattle.store.proofs.refusals.check_memory.Goals as goal

pub returns-then-ws-words : goal.returns-then-ws-words
returns-then-ws-words c = sym (length_is_accepted _ _ c.if-ws-words.true)

pub returns-else-ws-words : goal.returns-else-ws-words
returns-else-ws-words c = sym (other_length_is_refused _ _ c.if-ws-words.false)
