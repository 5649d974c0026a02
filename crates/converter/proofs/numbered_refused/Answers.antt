-- `numbered_refused` lends the part of a shard.
use mathlib.Core.Path.{ap, ◌∙◌}
use Rattle.settings.specs.Refusal.{number_of}
use Rattle.converter.specs.Conversion.{refused_by}
use Rattle.converter.proofs.ShardLaws.{lent_long, lent_shard}
use Rattle.converter.proofs.numbered_refused.Goals as goal

pub shard_refused-requires : goal.shard_refused-requires
shard_refused-requires c = let start-of' = c.start_of-start in let shard-size' = c.shard_size in (
  lent_long c.args.layout c.args.cap c.args.i c.args.ws.now start-of'.ensures shard-size'.ensures c.requires.0,
  c.requires.1,
  λ not-5. ap
      (refused_by c.args.layout 5 c.args.cap) (lent_shard c.args.layout c.args.cap c.args.i c.args.ws.now start-of'.ensures shard-size'.ensures)
      ∙ c.requires.2 not-5,
)

pub returns : goal.returns
returns c = c.shard_refused.ensures ∙ ap (refused_by c.args.layout (number_of c.args.refusal) c.args.cap) (lent_shard c.args.layout
    c.args.cap c.args.i c.args.ws.now c.start_of-start.ensures c.shard_size.ensures)
