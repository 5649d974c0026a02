-- `start_of` multiplies: the word after the shard fits, so its first word does.
use native.Mathlib.Omega.{arith}
use Rattle.converter.proofs.start_of.Goals as goal

pub overflow_mul-result : goal.overflow_mul-result
overflow_mul-result c = record { fits = rw c.shard_size.ensures (omega (arith, c.requires)) }

pub overflow_add-result : goal.overflow_add-result
overflow_add-result c = record { fits = rw (c.first_word.ensures, c.shard_size.ensures) (omega (arith, c.requires)) }

pub returns : goal.returns
returns c = rw (c.first_word.ensures, c.shard_size.ensures)
