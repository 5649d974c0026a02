-- `move_all` goes shard by shard; the loop holds that the first words of the target are those of the shards so far.
use Rattle.converter.proofs.MoveLaws.{Moving}
use Rattle.converter.proofs.move_all.Given as goal

abbrev pub invariant-loop-i : goal.invariant-loop-i
invariant-loop-i l = Moving l.from l.shards l.cap l.source l.initial.target l.target l.i
