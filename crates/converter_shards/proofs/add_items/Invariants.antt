-- `add_items` adds item by item; the loop holds that the items so far are added and nothing else is changed.
use Rattle.converter_shards.proofs.ForthLaws.{Adding}
use Rattle.converter_shards.proofs.add_items.Given as goal

abbrev pub invariant-loop-i : goal.invariant-loop-i
invariant-loop-i l = Adding l.index l.n l.initial.ws l.ws l.i
