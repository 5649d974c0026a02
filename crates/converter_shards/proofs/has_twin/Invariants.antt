-- `has_twin` compares an item with those before it; the loop holds that none so far is like it.
use Rattle.converter_shards.proofs.CheckLaws.{NoneBelow}
use Rattle.converter_shards.specs.code.RowChecks.{alike_rows}
use Rattle.converter_shards.proofs.has_twin.Given as goal

abbrev pub invariant-loop-j : goal.invariant-loop-j
invariant-loop-j l = NoneBelow (alike_rows l.rows l.ws l.i) l.i l.j
