use Rattle.classes.specs.Classes.{most_classes}
use mathlib.Core.Path.{sym, ◌∙◌}
use native.Mathlib.Nat.{sub-zero}
use native.Mathlib.Omega.{arith}
use Rattle.classes.proofs.RefusalLaws.{no_place_is_left, refused_here, not_refused_here}
use Rattle.classes.proofs.LengthLaws.{nothing_kept, none_found_is_refused, found_is_not_refused}
use Rattle.classes.proofs.check_chains.Goals as goal

pub loop-class-init : goal.loop-class-init
loop-class-init c = record { none_refused = rw sub-zero; kept = nothing_kept _ most_classes }

pub chain_length-requires : goal.chain_length-requires
chain_length-requires c = record { placed = c.requires; named = omega arith; within = omega arith; kept = c.loop-class.invariant.kept }

pub returns-then-chain_length-eq0 : goal.returns-then-chain_length-eq0
returns-then-chain_length-eq0 c = let refused = none_found_is_refused _ _ _ _ c.chain_length.ensures c.if-chain_length-eq0.true in
    sym (c.loop-class.invariant.none_refused
    ∙ sym (refused_here _ _ _ (omega arith) (λ e. omega (arith, e, refused))) ∙ refused)

pub loop-class-preserved : goal.loop-class-preserved
loop-class-preserved c = let found = c.chain_length.ensures in
    record {
      none_refused =
          c.loop-class.invariant.none_refused
          ∙ not_refused_here _ _ _ (omega arith) (found_is_not_refused _ _ _ _ found c.if-chain_length-eq0.false);
      kept = found.kept;
    }

pub returns : goal.returns
returns c = no_place_is_left _ _ _ (omega arith) ∙ sym c.loop-class.invariant.none_refused
