-- `check_shard` compares the number with the shards.
use mathlib.Core.Path.{sym}
use Rattle.rules.proofs.DebtLaws.{shard_is_accepted, no_such_shard_is_refused}
use Rattle.debt_calls.proofs.check_shard.Goals as goal

pub returns-then-shard-shape : goal.returns-then-shard-shape
returns-then-shard-shape c = sym (shard_is_accepted _ _ c.if-shard-shape.true)

pub returns-else-shard-shape : goal.returns-else-shard-shape
returns-else-shard-shape c = sym (no_such_shard_is_refused _ _ c.if-shard-shape.false)
