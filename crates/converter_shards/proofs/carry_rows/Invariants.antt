-- `carry_rows` carries row by row; the loop holds that the rows so far are carried.
use Rattle.converter_shards.proofs.CarryLaws.{CarryingRows}
use Rattle.converter_shards.proofs.carry_rows.Given as goal

abbrev pub invariant-loop-i : goal.invariant-loop-i
invariant-loop-i l = CarryingRows l.from l.to l.n l.source l.initial.target l.target l.i
