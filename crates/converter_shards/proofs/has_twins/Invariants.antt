-- `has_twins` goes through the items; the loop holds that none so far has a twin before it.
use Rattle.converter_shards.proofs.CheckLaws.{NoneBelow}
use Rattle.converter_shards.specs.Checks.{any_below}
use Rattle.converter_shards.specs.code.RowChecks.{alike_rows}
use Rattle.converter_shards.proofs.has_twins.Given as goal

abbrev pub invariant-loop-i : goal.invariant-loop-i
invariant-loop-i l = NoneBelow (λ k. any_below k (alike_rows l.rows l.ws k)) l.n l.i
