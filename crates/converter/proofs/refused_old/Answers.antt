-- `refused_old` makes the test of a refusal; a shard that is looked at for twins or for words past a count has no count over the cap.
use mathlib.Core.Path.{ap, ◌∙◌}
use Rattle.settings.specs.Refusal.{number_of}
use Rattle.converter.specs.declared.Layout.TheVariants.{Old}
use Rattle.converter.proofs.ShardLaws.{refused_by_5, refused_by_18, refused_by_19, undamaged_shard, no_damage_asked, no_other_asked}
use Rattle.converter.proofs.refused_old.Goals as goal

pub returns-in-Memory : goal.returns-in-Memory
returns-in-Memory c = c.count_over.ensures ∙ refused_by_5 Old _ _ (ap number_of c.in-Memory.is)

pub twins-requires : goal.twins-requires
twins-requires c = record { size = c.requires.0; fits = undamaged_shard Old _ _ (c.requires.1 (no_damage_asked c.in-Twins.is)) }

pub returns-in-Twins : goal.returns-in-Twins
returns-in-Twins c = c.twins.ensures ∙ refused_by_18 Old _ _ (ap number_of c.in-Twins.is)

pub used_past-requires : goal.used_past-requires
used_past-requires c = let other = no_other_asked _ c.in_default.not-Memory c.in_default.not-Twins in
    record { size = c.requires.0; fits = undamaged_shard Old _ _ (c.requires.1 other.0) }

pub returns-in_default : goal.returns-in_default
returns-in_default c = let other = no_other_asked _ c.in_default.not-Memory c.in_default.not-Twins in
    c.used_past.ensures ∙ refused_by_19 Old _ _ other.0 other.1
