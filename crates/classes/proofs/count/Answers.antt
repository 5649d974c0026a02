-- `count` divides by the width of a class: as many classes have all their words there.
use Rattle.classes.proofs.LayoutLaws.{class_count_lem}
use mathlib.Core.Path.{sym}
use Rattle.classes.proofs.count.Goals as goal

pub returns : goal.returns
returns c = sym (class_count_lem _)
