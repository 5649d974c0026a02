-- `parent_of` reads the class above where there is the class; past the last there is none.
use Rattle.classes.proofs.LayoutLaws.{class_count_lem, no_parent_past}
use native.Mathlib.Omega.{arith}
use Rattle.classes.proofs.parent_of.Goals as goal

pub load_parent-requires : goal.load_parent-requires
load_parent-requires c = omega (arith, class_count_lem c.args.table.now)

pub returns-then-class-count : goal.returns-then-class-count
returns-then-class-count c = c.load_parent.ensures

pub returns : goal.returns
returns c = no_parent_past _ _ (omega arith)
