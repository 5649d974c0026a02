-- `check_classes`: from this class on the first refusal is that from class 0 on. Each turn is one law of RefusalLaws.
use Rattle.classes.specs.Layout.{classes_in}
use Rattle.classes.specs.Classes.{first_from, first_refused, refused_by}
use lib.ListN.{length}
use mathlib.Core.Path.{◌≡◌}
use Prim.Native.Nat.{◌-◌}
use Rattle.classes.proofs.check_classes.Given as goal

abbrev pub invariant-loop-class : goal.invariant-loop-class
invariant-loop-class l = let cs = classes_in l.table in first_refused l.check cs ≡ first_from (refused_by l.check cs) l.class (length cs - l.class)
