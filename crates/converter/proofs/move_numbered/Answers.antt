-- `move_numbered` lends the part of a shard in both memories.
use Rattle.converter.specs.Layouts.{other}
use native.Mathlib.Omega.{arith}
use mathlib.Core.Path.{ap, ◌∙◌}
use Rattle.converter.specs.Layouts.{damaged}
use Rattle.converter.proofs.MoveLaws.{part_moved}
use Rattle.converter.proofs.ShardLaws.{lent_long, lent_shard}
use Rattle.converter.proofs.move_numbered.Goals as goal

pub start_of-onto-requires : goal.start_of-onto-requires
start_of-onto-requires c = rw c.other-to.ensures (omega (arith, c.requires.1))

pub shard_size-requires-2 : goal.shard_size-requires-2
shard_size-requires-2 c = rw c.other-to.ensures (omega (arith, c.requires.1))

pub overflow_add-onto_end : goal.overflow_add-onto_end
overflow_add-onto_end c = record {
  fits = rw (c.start_of-onto.ensures, c.shard_size-2.ensures, c.other-to.ensures)
      (omega (arith, c.requires.1));
}

pub offset_bounds-target-onto : goal.offset_bounds-target-onto
offset_bounds-target-onto c = record {
  fits = rw (c.start_of-onto.ensures, c.other-to.ensures)
      (omega (arith, c.requires.1));
}

pub slice_bounds-move_shard-end-2 : goal.slice_bounds-move_shard-end-2
slice_bounds-move_shard-end-2 c = rw (c.start_of-onto.ensures, c.shard_size-2.ensures, c.other-to.ensures)
    (omega (arith, c.requires.1))

pub move_shard-requires : goal.move_shard-requires
move_shard-requires c = let start-of' = c.start_of-start in let shard-size' = c.shard_size in let other' = c.other-to in (
  lent_long c.args.from c.args.cap c.args.i c.args.source.now start-of'.ensures shard-size'.ensures c.requires.0,
  lent_long
      (other c.args.from) c.args.cap c.args.i c.args.target.now (rw other'.ensures at c.start_of-onto.ensures)
      (rw other'.ensures at c.shard_size-2.ensures) c.requires.1,
  c.requires.2,
  ap (damaged c.args.from c.args.cap)
      (lent_shard c.args.from c.args.cap c.args.i c.args.source.now start-of'.ensures shard-size'.ensures) ∙
      c.requires.3,
)

pub returns : goal.returns
returns c = let other' = c.other-to in part_moved c.args.from c.args.cap c.args.i c.args.source.now
    c.args.target.now c.start_of-start.ensures c.shard_size.ensures (rw other'.ensures at c.start_of-onto.ensures)
    (rw other'.ensures at c.shard_size-2.ensures) c.move_shard.ensures
