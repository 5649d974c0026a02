use Rattle.converter_shards.proofs.CheckLaws.{none_start, none_next, none_found, none_over}
use native.Mathlib.Omega.{arith}
use Rattle.converter_shards.proofs.has_twin.Goals as goal

pub loop-j-init : goal.loop-j-init
loop-j-init c = none_start _ _

pub alike-requires : goal.alike-requires
alike-requires c = let pre' = c.requires in (pre'.0, pre'.1, omega (arith, pre'.1))

pub returns-then-alike : goal.returns-then-alike
returns-then-alike c = none_found _ _ c.loop-j-test.true c.alike.ensures c.if-alike.true

pub loop-j-preserved : goal.loop-j-preserved
loop-j-preserved c = none_next _ _ c.loop-j.invariant c.loop-j-test.true c.alike.ensures c.if-alike.false

pub returns : goal.returns
returns c = none_over _ _ c.loop-j.invariant c.loop-j-test.false
