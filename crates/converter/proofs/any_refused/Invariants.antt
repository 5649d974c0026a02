-- `any_refused` goes through the shards; the loop holds that none so far is refused.
use Rattle.settings.specs.Refusal.{number_of}
use Rattle.converter.specs.Conversion.{refused_by}
use Rattle.converter.specs.Layouts.{shard_at}
use Rattle.converter_shards.proofs.CheckLaws.{NoneBelow}
use Rattle.converter.proofs.any_refused.Given as goal

abbrev pub invariant-loop-i : goal.invariant-loop-i
invariant-loop-i l = NoneBelow (λ k. refused_by l.layout (number_of l.refusal) l.cap (shard_at l.layout l.cap k l.ws)) l.shards l.i
