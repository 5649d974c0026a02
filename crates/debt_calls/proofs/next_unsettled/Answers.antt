use mathlib.Core.Path.{refl, ◌∙◌}
use native.Mathlib.Omega.{arith}
use Rattle.debt_calls.proofs.ListingLaws.{listed_inside, listed_below, listed_next, settled_passed}
use Rattle.debt_calls.proofs.next_unsettled.Goals as goal

pub loop-part-init : goal.loop-part-init
loop-part-init c = (c.requires.1, refl)

pub load-debt-requires : goal.load-debt-requires
load-debt-requires c = let readable = c.requires.0 in
    (readable.placed, listed_inside _ _ _ readable _ c.loop-part.invariant.0)

pub overflow_add-i : goal.overflow_add-i
overflow_add-i c = let inside = listed_inside _ _ _ c.requires.0 _ c.loop-part.invariant.0 in
    omega (arith, inside)

pub returns-then-at-debt : goal.returns-then-at-debt
returns-then-at-debt c = let readable = c.requires.0 in
    let below = listed_below _ _ _ readable _ c.loop-part.invariant.0 in
    c.loop-part.invariant.1 ∙ listed_next _ _ _ readable _ below c.load-debt.ensures c.if-at-debt.true

pub loop-part-smaller : goal.loop-part-smaller
loop-part-smaller c = let inside = listed_inside _ _ _ c.requires.0 _ c.loop-part.invariant.0 in
    omega (arith, inside)

pub loop-part-preserved : goal.loop-part-preserved
loop-part-preserved c = let readable = c.requires.0 in
    let below = listed_below _ _ _ readable _ c.loop-part.invariant.0 in
    let same = settled_passed _ _ _ readable _ below c.load-debt.ensures c.if-at-debt.false in
    (rw same at c.loop-part.invariant.0, c.loop-part.invariant.1 ∙ same)
