-- `remove` is the definition's removal: it finds the place of the item, vacates it, and renumbers the last item.
use Rattle.index.proofs.LayoutLaws.{then_fits, vacated_length, removed_by_calls}
use Rattle.index.proofs.remove.Goals as goal

pub renumber_last-requires : goal.renumber_last-requires
renumber_last-requires c = let pre' = c.requires in
    (then_fits _ pre'.0 (vacated_length _ _ _ _ pre'.0.inside) c.vacate.ensures, pre'.1)

pub returns : goal.returns
returns c = let pre' = c.requires in
    removed_by_calls pre'.0 _ _ pre'.1 c.place_of-z.ensures c.vacate.ensures c.renumber_last.ensures
