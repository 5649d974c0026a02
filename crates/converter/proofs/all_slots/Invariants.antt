-- `all_slots` adds shard by shard; the loop holds that the sum so far is that of the shards so far.
use Rattle.converter.proofs.ShardLaws.{Summing}
use Rattle.converter.proofs.all_slots.Given as goal

abbrev pub invariant-loop-i : goal.invariant-loop-i
invariant-loop-i l = Summing l.layout l.shards l.cap l.ws l.slots l.i
