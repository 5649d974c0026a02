use Prim.Native.Nat.{◌-◌}
use mathlib.Core.Path.{◌≡◌, sym, ◌∙◌}
use native.Mathlib.Omega.{arith}
use Rattle.ledger.specs.Layout.{ledger}
use Rattle.ledger.proofs.RowLaws.{soonest_none, soonest_turn_at, sooner_below}
use Rattle.ledger.proofs.soonest_before.Goals as goal

pub loop-i-init : goal.loop-i-init
loop-i-init c = let a = c.args in
    let all : a.end - (a.end - a.looks) ≡ a.looks = omega arith in
    record { within = omega arith; below = omega (arith, c.requires.1, c.requires.3); same = rw all }

pub loop-i-preserved : goal.loop-i-preserved
loop-i-preserved c = let inv = c.loop-i.invariant in
    let a = c.args in
    record {
      within = omega arith;
      below = sooner_below (ledger a.cap a.ws.now) _ _ c.sooner-best.ensures inv.below (omega (arith, c.requires.3));
      same = rw c.sooner-best.ensures (sym (soonest_turn_at _ _ (omega arith)) ∙ inv.same);
    }

pub returns : goal.returns
returns c = soonest_none _ _ _ _ (omega arith) ∙ c.loop-i.invariant.same
