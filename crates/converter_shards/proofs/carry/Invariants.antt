-- `carry` stores word by word; the loop holds that the words so far are the source's.
use Rattle.converter_shards.proofs.CarryLaws.{Carrying}
use Rattle.converter_shards.proofs.carry.Given as goal

abbrev pub invariant-loop-k : goal.invariant-loop-k
invariant-loop-k l = Carrying l.source l.initial.target l.target l.k
