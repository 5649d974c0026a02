-- `empty_places` counts; the loop holds that the count and the empty places to come make up all.
use Rattle.converter_shards.proofs.CheckLaws.{Counting}
use Rattle.index.specs.Layout.{places_of}
use Rattle.converter_shards.proofs.empty_places.Given as goal

abbrev pub invariant-loop-q : goal.invariant-loop-q
invariant-loop-q l = Counting (places_of l.index l.ws) l.index.size l.empty l.q
