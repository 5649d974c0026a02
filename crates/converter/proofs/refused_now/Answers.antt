-- `refused_now` makes the test of a refusal; a shard that is looked at for twins or for words past a count is not damaged.
use mathlib.Core.Path.{ap, ◌∙◌}
use Rattle.settings.specs.Refusal.{number_of}
use Rattle.converter.specs.declared.Layout.TheVariants.{Present}
use Rattle.converter.proofs.ShardLaws.{refused_by_5, refused_by_18, refused_by_19, undamaged_shard, undamaged_intact, indexes_are_exact}
use Rattle.converter.proofs.ShardLaws.{no_damage_asked, no_other_asked}
use Rattle.converter.proofs.refused_now.Goals as goal

pub returns-in-Memory : goal.returns-in-Memory
returns-in-Memory c = c.damaged_now.ensures ∙ refused_by_5 Present _ _ (ap number_of c.in-Memory.is)

pub twins_by_lookup-requires : goal.twins_by_lookup-requires
twins_by_lookup-requires c = let none = undamaged_shard Present _ _ (c.requires.2 (no_damage_asked c.in-Twins.is)) in
    (undamaged_intact c.requires.0 c.requires.1 none, indexes_are_exact _ _ none)

pub returns-in-Twins : goal.returns-in-Twins
returns-in-Twins c = c.twins_by_lookup.ensures ∙ refused_by_18 Present _ _ (ap number_of c.in-Twins.is)

pub used_past_now-requires : goal.used_past_now-requires
used_past_now-requires c = let other = no_other_asked _ c.in_default.not-Memory c.in_default.not-Twins in
    undamaged_intact c.requires.0 c.requires.1 (undamaged_shard Present _ _ (c.requires.2 other.0))

pub returns-in_default : goal.returns-in_default
returns-in_default c = let other = no_other_asked _ c.in_default.not-Memory c.in_default.not-Twins in
    c.used_past_now.ensures ∙ refused_by_19 Present _ _ other.0 other.1
