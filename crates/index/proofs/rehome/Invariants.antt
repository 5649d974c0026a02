-- `rehome` is the pass over the places after an emptied one. The loop holds that the pass from here leaves what it leaves from the start, and what the pass
-- knows at the place.
use Rattle.std.proofs.Common.{◌-◌}
use Rattle.index.specs.Walk.{onward}
use Rattle.index.specs.Layout.{places_of}
use Rattle.index.specs.code.Trail.{Trail}
use Rattle.index.proofs.LayoutLaws.{Rehoming}
use Rattle.index.proofs.rehome.Given as goal

abbrev pub invariant-loop : goal.invariant-loop
invariant-loop l = Rehoming l.index l.n l.initial.ws (onward l.index.size l.z) l.ws l.q (l.index.size - l.counter)
    × Trail l.index.size (places_of l.index l.ws) l.q l.pass
