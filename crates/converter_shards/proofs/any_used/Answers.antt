use Rattle.converter_shards.proofs.CheckLaws.{none_start, none_next, none_found, none_over, used_of, unused_of, used_start}
use mathlib.Core.Path.{◌∙◌, refl}
use Rattle.converter_shards.proofs.any_used.Goals as goal

pub loop-word-init : goal.loop-word-init
loop-word-init c = none_start _ _

pub returns-then-word-ne0 : goal.returns-then-word-ne0
returns-then-word-ne0 c = none_found _ _ c.loop-word-test.true refl (used_of _ c.if-word-ne0.true) ∙ used_start _

pub loop-word-preserved : goal.loop-word-preserved
loop-word-preserved c = none_next _ _ c.loop-word.invariant c.loop-word-test.true refl (unused_of _ c.if-word-ne0.false)

pub returns : goal.returns
returns c = none_over _ _ c.loop-word.invariant c.loop-word-test.false ∙ used_start _
