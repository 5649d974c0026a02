use Prim.Native.Nat.{◌-◌}
use mathlib.Core.Path.{◌≡◌, refl, sym, ◌∙◌}
use native.Mathlib.Omega.{arith}
use Rattle.evict.proofs.RowLaws.{along_none, along_stops_at, along_turn_at}
use Rattle.evict.proofs.look_along.Goals as goal

pub loop-pos-init : goal.loop-pos-init
loop-pos-init c = let a = c.args in
    let all : a.end - (a.end - a.row.left) ≡ a.row.left = omega arith in
    record { within = omega arith; same = rw all }

pub loop-pos-preserved : goal.loop-pos-preserved
loop-pos-preserved c = let inv = c.loop-pos.invariant in
    record {
      within = omega arith;
      same = rw c.min-least.ensures
          (sym (along_turn_at _ _ _ _ (omega arith) c.get-slot.ensures c.plainly_owed-owed.ensures c.if-owed-eq0.false) ∙ inv.same);
    }

pub returns-then-owed-eq0 : goal.returns-then-owed-eq0
returns-then-owed-eq0 c =
    along_stops_at _ _ _ _ (omega arith) c.get-slot.ensures c.plainly_owed-owed.ensures c.if-owed-eq0.true ∙ c.loop-pos.invariant.same

pub returns : goal.returns
returns c = let last = c.loop-pos in
    let none : c.args.end - last.pos ≡ 0 = omega arith in
    along_none _ _ _ _ 0 _ refl ∙ rw none at last.invariant.same
