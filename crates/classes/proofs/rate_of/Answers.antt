-- `rate_of` reads the rate of a class where there is one; past the last there is none.
use Rattle.classes.proofs.LayoutLaws.{class_count_lem, no_rate_past}
use mathlib.Core.Path.{◌∙◌}
use native.Mathlib.Omega.{arith}
use Rattle.classes.proofs.rate_of.Goals as goal

pub load_rate-requires : goal.load_rate-requires
load_rate-requires c = omega (arith, class_count_lem c.args.table.now)

pub returns-then-class-count : goal.returns-then-class-count
returns-then-class-count c = c.load_rate.ensures

pub returns : goal.returns
returns c = c.no_rate.ensures ∙ no_rate_past _ _ (omega arith)
