-- `keep` stores the row at the place behind the n rows.
use mathlib.Core.Path.{◌∙◌}
use Rattle.outage_rows.proofs.LayoutLaws.{one_row_more}
use Rattle.outage_rows.proofs.keep.Goals as goal

pub returns : goal.returns
returns c = (c.put.ensures.0 ∙ one_row_more _ _ _, c.put.ensures.1)
