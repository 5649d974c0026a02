-- `vacate` empties a place in use and passes over the places after it. An empty place, and one past the last, it leaves as it is.
use Rattle.std.proofs.Common.{sym, ◌∙◌}
use Rattle.index.proofs.LayoutLaws.{then_fits, set_length, vacated_empty, vacated_past, vacated_used}
use Rattle.index.proofs.PassLaws.{emptied_place}
use Rattle.index.proofs.vacate.Goals.{else-z-index-via-then-z-index+else-word_at-ne0, else-z-index-via-else-z-index}
use Rattle.index.proofs.vacate.Goals as goal

pub rehome-requires : goal.rehome-requires
rehome-requires c = let pre' = c.requires in
    let fits = then_fits _ pre' (set_length _ _ _ _ pre'.inside) c.empty.ensures in
    (fits, c.if-z-index.true, emptied_place _ pre' c.if-z-index.true c.empty.ensures)

pub returns-then-word_at-ne0 : goal.returns-then-word_at-ne0
returns-then-word_at-ne0 c = let used = rw c.word_at.ensures at c.if-word_at-ne0.true in
    let pre' = c.requires in
    vacated_used pre' _ used c.empty.ensures c.rehome.ensures

pub returns-else-z-index : goal.returns-else-z-index
returns-else-z-index c = elim c.else-z-index.branch [
  | else-z-index-via-then-z-index+else-word_at-ne0 w ↦ vacated_empty c.requires _ (sym w.word_at.ensures ∙ w.if-word_at-ne0.false)
  | else-z-index-via-else-z-index w ↦ vacated_past c.requires _ w.if-z-index.false
]
