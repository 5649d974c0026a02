-- `faults::has` is the kit's search for a byte.
use Rattle.desk_reasons.proofs.FaultLaws.{has_by_search}
use Rattle.desk_reasons.proofs.faults.has.Goals as goal

pub returns : goal.returns
returns c = has_by_search _ _ c.find.ensures.first
