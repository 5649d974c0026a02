-- From one place of the run back to another.
use Rattle.lesson_words.proofs.TimeLaws.{all_digits_fit, no_digits, too_many_digits, digits_in_nanos}
use mathlib.Core.Path.{◌∙◌}
use native.Mathlib.Omega.{arith}
use Rattle.lesson_words.proofs.times.of_decimal.Goals as goal

pub returns-then-count-eq0 : goal.returns-then-count-eq0
returns-then-count-eq0 c = let args' = c.args in
    no_digits args'.whole args'.fraction args'.unit c.if-count-eq0.true

pub returns-then-count-gt-MOST_DIGITS : goal.returns-then-count-gt-MOST_DIGITS
returns-then-count-gt-MOST_DIGITS c = let args' = c.args in
    too_many_digits args'.whole args'.fraction args'.unit c.if-count-eq0.false c.if-count-gt-MOST_DIGITS.true

pub overflow_mul-digits : goal.overflow_mul-digits
overflow_mul-digits c = let args' = c.args in
    record {
      fits = rw c.power.ensures
          (omega (arith, all_digits_fit args'.whole args'.fraction c.requires.0 c.requires.1 c.if-count-gt-MOST_DIGITS.false));
    }

pub overflow_add-digits : goal.overflow_add-digits
overflow_add-digits c = let args' = c.args in
    record {
      fits = rw c.power.ensures
          (omega (arith, all_digits_fit args'.whole args'.fraction c.requires.0 c.requires.1 c.if-count-gt-MOST_DIGITS.false));
    }

pub in_nanos-requires : goal.in_nanos-requires
in_nanos-requires c = let args' = c.args in
    let if3' = c.if-count-gt-MOST_DIGITS in (
      rw c.power.ensures (all_digits_fit args'.whole args'.fraction c.requires.0 c.requires.1 if3'.false),
      omega (arith, if3'.false),
      c.requires.5,
      c.requires.4,
      c.requires.6,
    )

pub returns : goal.returns
returns c = let args' = c.args in
    rw c.power.ensures at c.in_nanos.ensures
    ∙ digits_in_nanos args'.whole args'.fraction args'.unit c.if-count-eq0.false c.if-count-gt-MOST_DIGITS.false
