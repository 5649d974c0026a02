-- `room_in` multiplies small numbers: the shape is that of an accepted size.
use Rattle.store.proofs.MemoryLaws.{accepted_room_small}
use native.Mathlib.Omega.{arith}
use Rattle.store.proofs.words.room_in.Goals as goal

pub overflow_mul-result : goal.overflow_mul-result
overflow_mul-result c = record { fits = omega (arith, accepted_room_small c.requires) }
