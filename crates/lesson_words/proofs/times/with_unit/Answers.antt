-- src/times.rt:39:9
use Rattle.lesson_words.proofs.TimeLaws.{whole_fits_lem}
use Rattle.lesson_words.proofs.TimeLaws.{fraction_fits, unit_is_small}
use Rattle.std.proofs.Common.{sym, ap, ◌∙◌}
use Rattle.std.specs.Result.{result_ok}
use Rattle.lesson_words.proofs.times.with_unit.Goals as goal

pub fraction_at-fraction-requires : goal.fraction_at-fraction-requires
fraction_at-fraction-requires c = (whole_fits_lem c.args.word.now c.front-whole.ensures).inside

pub slice_bounds-unit_of-count : goal.slice_bounds-unit_of-count
slice_bounds-unit_of-count c = let args' = c.args in
    (fraction_fits args'.word.now _ (whole_fits_lem args'.word.now c.front-whole.ensures).inside c.fraction_at-fraction.ensures).inside

pub slice_bounds-unit_of-start : goal.slice_bounds-unit_of-start
slice_bounds-unit_of-start c = let args' = c.args in
    (fraction_fits args'.word.now _ (whole_fits_lem args'.word.now c.front-whole.ensures).inside c.fraction_at-fraction.ensures).inside

pub of_decimal-requires : goal.of_decimal-requires
of_decimal-requires c = let args' = c.args in
    let whole = whole_fits_lem args'.word.now c.front-whole.ensures in
    let part = fraction_fits args'.word.now _ whole.inside c.fraction_at-fraction.ensures in
    let u = unit_is_small _ (sym (ap result_ok c.in_ok-unit.was) ∙ sym c.ok_or.ensures.ok_part ∙ c.unit_of.ensures) in
    (whole.small, part.small, whole.few, part.few, u.by_some, u.by_small, u.tens_small)
