use Rattle.converter_shards.proofs.CheckLaws.{counting_start}
use Rattle.converter_shards.proofs.CheckLaws.{counting_next, counting_over, one_most}
use Rattle.index.proofs.LayoutLaws.{places_length}
use native.Mathlib.Omega.{arith}
use Rattle.converter_shards.proofs.empty_places.Goals as goal

pub loop-q-init : goal.loop-q-init
loop-q-init c = counting_start _ _ (places_length _ _ c.requires)

pub word_at-requires : goal.word_at-requires
word_at-requires c = (c.requires, c.loop-q-test.true)

pub overflow_add-empty : goal.overflow_add-empty
overflow_add-empty c = omega (
  arith,
  c.loop-q.invariant.most,
  c.loop-q-test.true,
  c.one_if_empty-empty.ensures,
  one_most
      c.word_at.result,
)

pub loop-q-preserved : goal.loop-q-preserved
loop-q-preserved c = counting_next c.loop-q.invariant c.loop-q-test.true c.word_at.ensures c.one_if_empty-empty.ensures

pub returns : goal.returns
returns c = counting_over c.loop-q.invariant c.loop-q-test.false
