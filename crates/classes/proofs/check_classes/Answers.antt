use mathlib.Core.Path.{sym, ◌∙◌}
use native.Mathlib.Nat.{sub-zero}
use native.Mathlib.Omega.{arith}
use Rattle.settings.proofs.RefusalLaws.{has_a_number, handed_on}
use Rattle.classes.proofs.RefusalLaws.{no_place_is_left, refused_here, not_refused_here}
use Rattle.classes.proofs.check_classes.Goals as goal

pub loop-class-init : goal.loop-class-init
loop-class-init c = rw sub-zero

pub returns-in_err-check_class : goal.returns-in_err-check_class
returns-in_err-check_class c = let refused = c.in_err-check_class.ensures in
    handed_on c.from_residual.result _ c.from_residual.ensures.1 ∙ refused
    ∙ refused_here _ _ _ (omega arith) (λ none. has_a_number _ (refused ∙ none)) ∙ sym c.loop-class.invariant

pub loop-class-preserved : goal.loop-class-preserved
loop-class-preserved c = c.loop-class.invariant ∙ not_refused_here _ _ _ (omega arith) (sym c.in_ok-check_class.ensures)

pub returns : goal.returns
returns c = no_place_is_left _ _ _ (omega arith) ∙ sym c.loop-class.invariant
