-- `slots_numbered` lends the part of a shard.
use mathlib.Core.Path.{ap, ◌∙◌}
use Rattle.shard_map.specs.Model.{Shard}
use Rattle.converter.proofs.ShardLaws.{lent_long, lent_shard}
use Rattle.converter.proofs.slots_numbered.Goals as goal

pub slot_count-requires : goal.slot_count-requires
slot_count-requires c = lent_long c.args.layout c.args.cap c.args.i c.args.ws.now c.start_of-start.ensures
    c.shard_size.ensures c.requires

pub returns : goal.returns
returns c = c.slot_count.ensures ∙ ap (λ (s : Shard). s.slots.count) (lent_shard c.args.layout c.args.cap c.args.i
    c.args.ws.now c.start_of-start.ensures c.shard_size.ensures)
