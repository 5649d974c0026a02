-- `damaged_now` looks at the counts, then at the indexes.
use mathlib.Core.Path.{sym, ◌∙◌}
use Rattle.converter.proofs.ShardLaws.{over_is_damage, damage_by_indexes, counted_intact}
use Rattle.converter.proofs.damaged_now.Goals as goal

pub returns-then-count_over_now : goal.returns-then-count_over_now
returns-then-count_over_now c = c.if-count_over_now.true ∙ over_is_damage _ _ c.count_over_now.ensures c.if-count_over_now.true

pub indexes_exact-requires : goal.indexes_exact-requires
indexes_exact-requires c = counted_intact c.requires.0 c.requires.1 (sym c.count_over_now.ensures ∙ c.if-count_over_now.false)

pub returns-else-count_over_now : goal.returns-else-count_over_now
returns-else-count_over_now c = damage_by_indexes _ _ c.count_over_now.ensures c.if-count_over_now.false c.indexes_exact.ensures
