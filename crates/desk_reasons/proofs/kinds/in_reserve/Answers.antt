-- `kinds::in_reserve` has one field more than `kinds::in_request`.
use native.Mathlib.Omega.{arith}
use mathlib.Core.Path.{◌∙◌}
use Rattle.desk_reasons.proofs.KindLaws.{reserve_as_request}
use Rattle.desk_reasons.proofs.kinds.in_reserve.Goals as goal

pub returns-in_default : goal.returns-in_default
returns-in_default c = c.in_request.ensures ∙ reserve_as_request c.args.i (λ e. omega arith)
