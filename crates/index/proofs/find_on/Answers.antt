use Rattle.std.proofs.Common.{◌≡◌, ℕ, ◌+◌, ◌-◌, ◌<◌, List, ◌∙◌, arith}
use Rattle.index.specs.declared.Index.{Index}
use Rattle.index.specs.declared.Probed.{Probed}
use Rattle.index.specs.Walk.{at, onward, probed, find_from}
use Rattle.index.specs.Layout.{Fits, places_of, keyed}
use Rattle.index.proofs.LayoutLaws.{places_length}
use Rattle.index.proofs.StepLaws.{after_look, find_turn, find_over, onward_below}
use Rattle.index.proofs.find_on.Invariants.{Walking}
use Rattle.index.proofs.find_on.Goals as goal

-- After a look: what the lookup gives, by what the look gave.
turned : {ws : List ℕ} {index : Index} {n hash key home q left : ℕ} {p p' : Probed} → Fits index n ws → Walking ws index n hash key home q left → 0 < left
    → p ≡ probed n (keyed index ws hash key) (at (places_of index ws) q) → p ≡ p'
    → let test = keyed index ws hash key in
    let ix = places_of index ws in
    after_look p' (find_from n test ix (onward index.size q) (left - 1)) ≡ find_from n test ix (onward index.size home) (index.size - 1)
turned fits here more look which = find_turn _ _ _ _ _ _ (places_length _ _ fits.inside) more look which ∙ here.same

pub loop-init : goal.loop-init
loop-init c = let all : c.args.index.size - 1 - 0 ≡ c.args.index.size - 1 = omega arith in
    record { below = rw c.onward-q.ensures (onward_below _ _ c.requires.1); same = rw (c.onward-q.ensures, all) }

pub probe-requires : goal.probe-requires
probe-requires c = (c.requires.0, c.loop.invariant.below)

pub returns-in-Hit : goal.returns-in-Hit
returns-in-Hit c = turned c.requires.0 c.loop.invariant (omega (arith, c.loop-test.true)) c.probe.ensures c.in-Hit.is

pub returns-in-Empty : goal.returns-in-Empty
returns-in-Empty c = turned c.requires.0 c.loop.invariant (omega (arith, c.loop-test.true)) c.probe.ensures c.in-Empty.is

pub loop-preserved : goal.loop-preserved
loop-preserved c = let here = c.loop.invariant in
    let last = c.args.index.size - 1 in
    let one_less : last - (c.loop.counter + 1) ≡ last - c.loop.counter - 1 = omega arith in
    record {
      below = rw c.onward-q-in-Other.ensures (onward_below _ _ here.below);
      same = rw (c.onward-q-in-Other.ensures, one_less) (turned c.requires.0 here (omega (arith, c.loop-test.true)) c.probe.ensures c.in-Other.is);
    }

pub returns : goal.returns
returns c = find_over _ _ _ _ _ (omega (arith, c.loop-test.false)) ∙ c.loop.invariant.same
