use Rattle.std.proofs.Common.{◌≡◌, ◌+◌, ◌-◌, ◌<◌, length, sym, ◌∙◌, mod-lt, arith, eq-eqb, ne_eqb}
use Rattle.index.proofs.StepLaws.{walk_empty, walk_passing, walk_on, walk_over, seek_start, onward_below}
use Rattle.index.proofs.places.seek.Goals.{then-v-eq0-via-then-v-eq0, then-v-eq0-via-else-v-eq0+then-v-word}
use Rattle.index.proofs.places.seek.Goals as goal

pub loop-init : goal.loop-init
loop-init c = let at_home = c.home-q.ensures in
    let size = length c.args.ix.now in
    let all : size - 0 ≡ size = omega arith in
    record { below = rw at_home (mod-lt _ (omega arith)); same = rw (at_home, all) (seek_start _ _ _) }

pub returns-then-v-eq0 : goal.returns-then-v-eq0
returns-then-v-eq0 c = let more : c.loop.counter < length c.args.ix.now = c.loop-test.true in
    elim c.then-v-eq0.branch [
      | then-v-eq0-via-then-v-eq0 w ↦ sym (walk_empty _ _ _ _ (omega arith) w.if-v-eq0.true) ∙ c.loop.invariant.same
      | then-v-eq0-via-else-v-eq0+then-v-word w ↦ sym (walk_passing _ _ _ _ (omega arith) w.if-v-eq0.false (eq-eqb _ _ w.if-v-word.true))
          ∙ c.loop.invariant.same
    ]

pub loop-preserved : goal.loop-preserved
loop-preserved c = let here = c.loop.invariant in
    let size = length c.args.ix.now in
    let one_less : size - (c.loop.counter + 1) ≡ size - c.loop.counter - 1 = omega arith in
    let goes_on = walk_on _ _ _ _ (omega (arith, c.loop-test.true)) c.if-v-eq0.false (ne_eqb _ _ c.if-v-word.false) in
    record { below = rw c.onward-q.ensures (onward_below _ _ here.below); same = rw (c.onward-q.ensures, one_less) (sym goes_on ∙ here.same) }

pub returns : goal.returns
returns c = sym (walk_over _ _ _ _ (omega (arith, c.loop-test.false))) ∙ c.loop.invariant.same
