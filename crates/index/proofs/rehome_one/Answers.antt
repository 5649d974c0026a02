-- `rehome_one` empties a place and adds its item again: the second call goes on from the places that the first one left.
use Rattle.index.proofs.LayoutLaws.{then_fits, then_add_again, set_length}
use Rattle.index.proofs.rehome_one.Goals as goal

pub add_again-requires : goal.add_again-requires
add_again-requires c = let pre' = c.requires in
    (then_fits _ pre'.0 (set_length _ _ _ _ pre'.0.inside) c.empty.ensures, pre'.2)

pub returns : goal.returns
returns c = let pre' = c.requires in
    let long = set_length _ _ _ _ pre'.0.inside in
    then_add_again _ pre'.0 long c.empty.ensures _ pre'.2 c.add_again.ensures
