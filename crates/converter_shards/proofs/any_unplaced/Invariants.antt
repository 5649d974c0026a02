-- `any_unplaced` goes through the items; the loop holds that the walk of each so far met its number.
use Rattle.converter_shards.proofs.CheckLaws.{NoneBelow}
use Rattle.converter_shards.specs.Checks.{unplaced}
use Rattle.index.specs.Layout.{hash_of, places_of}
use Rattle.converter_shards.proofs.any_unplaced.Given as goal

abbrev pub invariant-loop-i : goal.invariant-loop-i
invariant-loop-i l = NoneBelow (unplaced (hash_of l.index l.ws) (places_of l.index l.ws)) l.n l.i
