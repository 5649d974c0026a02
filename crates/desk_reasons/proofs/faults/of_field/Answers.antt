-- `faults::of_field` looks at the field, then by its kind.
use Rattle.desk_reasons.proofs.faults.of_field.Goals as goal

pub returns : goal.returns
returns c = rw (c.seen.ensures, c.of_kind.ensures)
