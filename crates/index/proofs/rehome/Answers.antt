use Rattle.std.proofs.Common.{◌≡◌, ◌+◌, ◌-◌, sym, ◌∙◌, arith}
use Rattle.index.proofs.StepLaws.{onward_below}
use Rattle.index.proofs.LayoutLaws.{rehoming_start, rehoming_empty, rehoming_over, rehoming_on}
use Rattle.index.proofs.TrailLaws.{trail_start}
use Rattle.index.proofs.rehome.Goals as goal

pub loop-init : goal.loop-init
loop-init c = let first = c.onward-q.ensures in
    (rw first (rehoming_start c.requires.0 (onward_below _ _ c.requires.1)), rw first (trail_start _ _ _ c.requires.1 c.requires.2))

pub word_at-held-requires : goal.word_at-held-requires
word_at-held-requires c = let here = c.loop.invariant.0 in (here.fits.inside, here.below)

pub shape_of-ws-then-held-eq0 : goal.shape_of-ws-then-held-eq0
shape_of-ws-then-held-eq0 c = c.loop.invariant.0.long

pub returns-then-held-eq0 : goal.returns-then-held-eq0
returns-then-held-eq0 c = rehoming_empty c.requires.0 c.loop.invariant.0 (omega (arith, c.loop-test.true)) (sym c.word_at-held.ensures ∙ c.if-held-eq0.true)

pub pass_one-pass-requires : goal.pass_one-pass-requires
pass_one-pass-requires c = let here = c.loop.invariant.0 in
    (here.fits, here.below, c.word_at-held.ensures, omega (arith, c.if-held-eq0.false), c.loop.invariant.1)

pub onward-q-requires-in-loop : goal.onward-q-requires-in-loop
onward-q-requires-in-loop c = c.loop.invariant.0.below

pub loop-preserved : goal.loop-preserved
loop-preserved c = let used = rw c.word_at-held.ensures at c.if-held-eq0.false in
    let after = rw c.word_at-held.ensures at c.pass_one-pass.ensures.0 in
    let goes_on = rehoming_on c.requires.0 c.loop.invariant.0 (omega (arith, c.loop-test.true)) used after in
    let one_less : c.args.index.size - (c.loop.counter + 1) ≡ c.args.index.size - c.loop.counter - 1 = omega arith in
    (rw (c.onward-q-in-loop.ensures, one_less) goes_on, rw c.onward-q-in-loop.ensures c.pass_one-pass.ensures.1)

pub shape_of-ws : goal.shape_of-ws
shape_of-ws c = c.loop.invariant.0.long

pub returns : goal.returns
returns c = rehoming_over c.requires.0 c.loop.invariant.0 (omega (arith, c.loop-test.false))
