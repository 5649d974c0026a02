-- `kinds::in_set_up` goes by the place.
use native.Mathlib.Omega.{arith}
use Rattle.desk_reasons.proofs.KindLaws.{set_up_32_later, set_up_64}
use Rattle.desk_reasons.proofs.kinds.in_set_up.Goals as goal

pub returns-in-2 : goal.returns-in-2
returns-in-2 c = set_up_32_later c.args.i (omega arith) (omega arith)

pub returns-in-4 : goal.returns-in-4
returns-in-4 c = set_up_64 c.args.i (omega arith) (omega arith)
