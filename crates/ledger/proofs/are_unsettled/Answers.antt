use Prim.Native.Nat.{◌-◌}
use mathlib.Core.Path.{◌≡◌, sym, ◌∙◌}
use native.Mathlib.Omega.{arith}
use Rattle.ledger.proofs.RowLaws.{unsettled_none, settled_found_at, unsettled_turn_at}
use Rattle.ledger.proofs.are_unsettled.Goals as goal

pub loop-i-init : goal.loop-i-init
loop-i-init c = let a = c.args in
    let all : a.end - (a.end - a.looks) ≡ a.looks = omega arith in
    record { within = omega arith; same = rw all }

pub returns-then-settles-at : goal.returns-then-settles-at
returns-then-settles-at c = let turn = c.loop-i in
    settled_found_at _ _ (omega arith) (rw c.settles_at-settles.ensures at c.if-settles-at.true) ∙ turn.invariant.same

pub loop-i-preserved : goal.loop-i-preserved
loop-i-preserved c = let unsettled = rw c.settles_at-settles.ensures at c.if-settles-at.false in
    record { within = omega arith; same = sym (unsettled_turn_at _ _ (omega arith) unsettled) ∙ c.loop-i.invariant.same }

pub returns : goal.returns
returns c = unsettled_none _ _ _ _ (omega arith) ∙ c.loop-i.invariant.same
