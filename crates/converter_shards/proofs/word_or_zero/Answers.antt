-- `word_or_zero` reads past the last word as the definition does.
use lib.ListN.{get_or-eq_default}
use mathlib.Core.Path.{sym}
use Rattle.converter_shards.proofs.word_or_zero.Goals as goal

pub returns : goal.returns
returns c = sym (get_or-eq_default c.args.ws.now 0 c.if-k-ws.false)
