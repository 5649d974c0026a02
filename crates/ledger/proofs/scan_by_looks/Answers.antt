use mathlib.Core.Path.{◌≡◌, refl, sym, ◌∙◌}
use Prim.Native.Nat.{◌+◌, ◌-◌, ◌<◌}
use native.Mathlib.Omega.{arith}
use Rattle.ledger.proofs.ModelLaws.{scan_start, scan_end, scan_settled, scan_turn, intact_below, intact_cursor, intact_sooner, intact_after}
use Rattle.ledger.specs.Layout.{ledger}
use Rattle.ledger.proofs.scan_by_looks.Goals as goal

-- The cursor stands at a debt, below the cap.
held : (c : goal.After-cursor-cursor) → let cap = c.args.cap in
    (c.cursor-cursor.result < (ledger cap c.loop.ws).debts.count) × (c.cursor-cursor.result < cap)
held c = let inv = c.loop.invariant in intact_cursor inv.intact inv.some c.cursor-cursor.ensures

-- The cursor stands at a debt, below the cap.
held_2 : (c : goal.Else-settles-at) → let cap = c.args.cap in
    (c.cursor-cursor.result < (ledger cap c.loop.ws).debts.count) × (c.cursor-cursor.result < cap)
held_2 c = let inv = c.loop.invariant in intact_cursor inv.intact inv.some c.cursor-cursor.ensures

-- The cursor stands at a debt, below the cap.
held_3 : (c : goal.After-set_cursor-arg-in-loop-1) → let cap = c.args.cap in
    (c.cursor-cursor.result < (ledger cap c.loop.ws).debts.count) × (c.cursor-cursor.result < cap)
held_3 c = let inv = c.loop.invariant in intact_cursor inv.intact inv.some c.cursor-cursor.ensures

-- The cursor stands at a debt, below the cap.
held_4 : (c : goal.After-slice_known-in-loop-1) → let cap = c.args.cap in
    (c.cursor-cursor.result < (ledger cap c.loop.ws).debts.count) × (c.cursor-cursor.result < cap)
held_4 c = let inv = c.loop.invariant in intact_cursor inv.intact inv.some c.cursor-cursor.ensures

pub loop-init : goal.loop-init
loop-init c = let pre' = c.requires in
    let all : c.min-looks.result - 0 ≡ c.min-looks.result = omega arith in
    record {
      intact = pre'.0;
      long = refl;
      some = pre'.1;
      below = (intact_cursor pre'.0 pre'.1 c.cursor-best.ensures).0;
      same = rw (all, c.cursor-best.ensures, c.min-looks.ensures, c.count.ensures, c.ledger_looks.ensures) (scan_start _ _);
    }

pub settles_at-settles-requires : goal.settles_at-settles-requires
settles_at-settles-requires c = (c.loop.invariant.intact.size, (held c).1)

pub returns-then-settles-at : goal.returns-then-settles-at
returns-then-settles-at c = let settled = rw (c.settles_at-settles.ensures, c.cursor-cursor.ensures) at c.if-settles-at.true in
    let ends = scan_settled _ _ _ _ (omega arith) settled in
    rw (c.set_cursor.ensures, c.cursor-cursor.ensures) (sym ends ∙ c.loop.invariant.same)

pub sooner-best-requires : goal.sooner-best-requires
sooner-best-requires c = let inv = c.loop.invariant in
    (inv.intact, intact_below inv.intact inv.below, (held_2 c).1)

pub overflow_add-cursor : goal.overflow_add-cursor
overflow_add-cursor c = omega (arith, (held_3 c).1)

pub loop-preserved : goal.loop-preserved
loop-preserved c = let inv = c.loop.invariant in
    let unsettled = rw (c.settles_at-settles.ensures, c.cursor-cursor.ensures) at c.if-settles-at.false in
    let left = c.min-looks.result in
    let next : left - (c.loop.counter + 1) ≡ left - c.loop.counter - 1 = omega arith in
    let goes_on = scan_turn _ _ _ _ (omega arith) unsettled in
    record {
      intact = intact_after inv.intact c.set_cursor-in-loop.auto.ws c.set_cursor-in-loop.ensures inv.intact.sound;
      long = c.set_cursor-in-loop.auto.ws ∙ inv.long;
      some = rw c.set_cursor-in-loop.ensures inv.some;
      below = rw (c.set_cursor-in-loop.ensures, c.sooner-best.ensures) (intact_sooner inv.intact inv.below (held_4 c).0);
      same = rw (next, c.set_cursor-in-loop.ensures, c.sooner-best.ensures, c.cursor-cursor.ensures) (sym goes_on ∙ inv.same);
    }

pub returns : goal.returns
returns c = sym (scan_end _ _ _ _ (omega arith)) ∙ c.loop.invariant.same
