-- `request_size` adds up three fields.
use native.Mathlib.Omega.{arith}
use mathlib.Core.List.{[], ◌∷◌}
use Rattle.desk_writer.proofs.SizeLaws.{spaced_none_size, spaced_size}
use Rattle.desk_writer.proofs.request_size.Goals as goal

pub returns : goal.returns
returns c = let q = c.args.request in
    let size = spaced_size q.at.0 (q.key ∷ q.cost ∷ []) in
    (omega (arith, size, spaced_size q.key (q.cost ∷ []), spaced_size q.cost [], spaced_none_size), omega arith)
