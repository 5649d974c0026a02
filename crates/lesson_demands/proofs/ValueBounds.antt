-- Numbers that are read from words are within their widths.
use Rattle.std.proofs.Common.{Option, Some, None, Result, Ok, Err}
use Rattle.std.specs.Result.{IfOk}
use Rattle.std.specs.Option.{ok_or}
use Prim.Native.Nat.{ℕ, ◌+◌, ◌*◌, ◌-◌, ◌%◌, ◌^◌, ◌≤◌, ◌<◌}
use native.Mathlib.Omega.{arith}
use native.Mathlib.Nat.{div-le_self}
use mathlib.Core.Path.{◌≡◌, refl}
use mathlib.Core.List.{List}
use lib.Dec.{eqb, leb}
use lib.ListN.{length}
use Rattle.arith.proofs.Cases.{by_test, by_le, by_eq}
use Rattle.rows.specs.Segments.{segment}
use Rattle.decimal.specs.declared.Digits.{Digits}
use Rattle.decimal.specs.Decimal.{number_of, all_digits, decimal_from, front_of}
use Rattle.lesson_words.specs.declared.Fault.{Fault}
use Rattle.lesson_words.specs.declared.Kind.{Kind}
use Rattle.lesson_words.specs.declared.Fault.TheVariants as fault
use Rattle.lesson_words.specs.Steps.{◌>>=◌}
use Rattle.lesson_words.specs.declared.times.Unit as times
use Rattle.lesson_words.specs.declared.times.Fraction.{Fraction}
use Rattle.lesson_words.specs.Times.{most64, or_else, most_digits, product_of, quotient_of, in_nanos, of_decimal, fraction_of, unit_of, with_unit, time_of}
use Rattle.lesson_words.specs.Values.{at_least_once, count_of, plain_of, most_calls, value_of}
use Rattle.lesson_words.proofs.TimeLaws.{Small, SmallIf, unit_small, all_digits_fit, digits_times_unit, whole_fits_lem, fraction_fits}
use Rattle.lesson_lines.specs.Lesson.{word_from, word_end, placed, taken_at, taken}
use borrow.Author.Tests.{le-leb, lt-leb, ne_eqb}

-- Something holds of the number, if there is one.
abbrev OfNumber : (ℕ → Type 0) → Option ℕ → Type 0
OfNumber Q (Some n) = Q n
OfNumber Q None = Unit {0}

abbrev pub OfValue : (ℕ → Type 0) → Result ℕ Fault → Type 0
OfValue Q v = IfOk v Q

number_at_most : (most : ℕ) (w : List ℕ) → OfNumber (λ n. n ≤ most) (number_of most w)
unfolding number_of
number_at_most most w =
    by_test (leb 1 (length w))
    (λ t. by_test (leb (length w) 20)
    (λ u. by_test (all_digits w)
    (λ v. by_le (decimal_from 0 w) most
    (λ within. rw (t, u, v, le-leb (decimal_from 0 w) most within) within)
    (λ over. rw (t, u, v, lt-leb (decimal_from 0 w) most over) tt))
    (λ v. rw (t, u, v) tt))
    (λ u. rw (t, u) tt))
    (λ t. rw t tt)

or_else_lem : (Q : ℕ → Type 0) (o : Option ℕ) (v : Result ℕ Fault) → OfNumber Q o → OfValue Q v → OfValue Q (or_else o v)
or_else_lem Q (Some n) v first second = first
or_else_lem Q None v first second = second

-- A time has at most 64 bits.
abbrev Fits64 : ℕ → Type 0
Fits64 n = n ≤ most64

product_fits64 : (n by : ℕ) → OfValue Fits64 (product_of n by)
unfolding product_of
product_fits64 n by = by_le (n * by) most64 (λ fits. rw (le-leb (n * by) most64 fits) fits) (λ far. rw (lt-leb (n * by) most64 far) tt)

quotient_fits64 : (n by : ℕ) → n ≤ most64 → OfValue Fits64 (quotient_of n by)
unfolding quotient_of
quotient_fits64 n by fits = by_test (eqb (n % by) 0) (λ t. rw t (omega (arith, div-le_self n by))) (λ t. rw t tt)

nanos_fit64 : (digits places : ℕ) (u : times.Unit) → digits < 10 ^ 17 → Small u → OfValue Fits64 (in_nanos digits places u)
unfolding in_nanos
nanos_fit64 digits places u few small =
    by_test (leb places u.tens)
    (λ t. rw t (product_fits64 digits (u.by * 10 ^ (u.tens - places))))
    (λ t. rw t (quotient_fits64 (digits * u.by) (10 ^ (places - u.tens)) (omega (arith, digits_times_unit digits u.by few small.by_small))))

decimal_fits64 : (whole : Digits) (f : Fraction) (u : times.Unit) → whole.value < 10 ^ whole.end → f.value < 10 ^ f.places → Small u
    → OfValue Fits64 (of_decimal whole f u)
unfolding of_decimal
decimal_fits64 whole f u first second small =
    by_test (eqb (whole.end + f.places) 0)
    (λ t. rw t tt)
    (λ t. by_le (whole.end + f.places) most_digits
    (λ few. rw (t, le-leb (whole.end + f.places) most_digits few)
    (nanos_fit64 (whole.value * 10 ^ f.places + f.value) f.places u (all_digits_fit whole f first second few) small))
    (λ many. rw (t, lt-leb (whole.end + f.places) most_digits many) tt))

unit_fits64 : (whole : Digits) (f : Fraction) (u : Option times.Unit) → whole.value < 10 ^ whole.end → f.value < 10 ^ f.places → SmallIf u
    → OfValue Fits64 (ok_or u fault.Time >>= of_decimal whole f)
unit_fits64 whole f (Some u) first second small = decimal_fits64 whole f u first second small
unit_fits64 whole f None first second small = tt

pub time_fits64 : (word : List ℕ) → OfValue Fits64 (time_of word)
unfolding time_of
time_fits64 word =
    let whole = whole_fits_lem word {d = front_of word 0} refl in
    let f = fraction_fits word (front_of word 0).end whole.inside {f = fraction_of word (front_of word 0).end} refl in
    or_else_lem Fits64 (number_of most64 word) (with_unit word) (number_at_most most64 word)
    (unit_fits64 (front_of word 0) (fraction_of word (front_of word 0).end) (unit_of _) whole.small f.small (unit_small _))

-- A count is 1 at least.
counted_once : (v : Result ℕ Fault) → OfValue (λ n. 1 ≤ n) (v >>= at_least_once)
counted_once (Ok n) = by_eq n 0 (λ none. rw none tt) (λ some. rw (ne_eqb n 0 some) (omega arith))
counted_once (Err f) = tt

pub count_is_one_at_least : (word : List ℕ) → OfValue (λ n. 1 ≤ n) (count_of word)
count_is_one_at_least word = counted_once (plain_of most_calls word)

-- A word that was taken: what holds of its value holds of the number that was read.
module _ (Q : ℕ → Type 0) (line : List ℕ) (k : Kind) (clock : ℕ) (of : (w : List ℕ) → OfValue Q (value_of k clock w)) where
  value_placed : (from end : ℕ) (v : Result ℕ Fault) {r : ℕ × ℕ} → OfValue Q v → placed from end v ≡ Ok r → Q r.0
  value_placed from end (Ok n) {r} holds is = let same : n ≡ r.0 = cc in rw same at holds
  value_placed from end (Err f) holds is = absurd (cc)

  pub at_read : (from end : ℕ) {r : ℕ × ℕ} → taken_at line k clock from end ≡ Ok r → Q r.0
  unfolding taken_at
  at_read from end =
      by_test (eqb from end)
      (λ t. rw t (λ is. absurd (cc)))
      (λ t. rw t (value_placed from end (value_of k clock (segment from (end - from) line)) (of (segment from (end - from) line))))

  pub number_read : (at : ℕ) {r : ℕ × ℕ} → taken line k clock at ≡ Ok r → Q r.0
  number_read at = at_read (word_from line at) (word_end line (word_from line at))
