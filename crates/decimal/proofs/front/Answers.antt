use Prim.Native.Nat.{ℕ, suc, ◌+◌, ◌*◌, ◌-◌, ◌^◌, ◌≤◌, ◌<◌}
use native.Mathlib.Omega.{arith}
use mathlib.Core.List.{List}
use mathlib.Core.Path.{◌≡◌, sym, ◌∙◌}
use lib.ListN.{length, get_or}
use Rattle.arith.proofs.Cases.{by_le}
use Rattle.decimal.specs.Decimal.{front_of}
use Rattle.decimal.proofs.ReadLaws.{digit, digit_as_std, front_full, front_of_all, front_ends, front_goes_on}
use Rattle.decimal.proofs.ReadLaws.{one_digit_more_fits, fewer_digits_fit}
use Rattle.decimal.proofs.front.Invariants.{Reading}
use Rattle.decimal.proofs.front.Goals as goal

-- At the start no digit is read.
begins : (bytes : List ℕ) (from : ℕ) → from ≤ length bytes → Reading bytes from 0 from
begins bytes from inside =
    let none : from - from ≡ 0 = omega arith in
    let all : from + 19 - from ≡ 19 = omega arith in
    record { begun = omega arith; few = omega arith; within = inside; fits = rw none (omega arith); keeps = rw all }

-- One digit more.
goes_on : (bytes : List ℕ) (from value end : ℕ) → Reading bytes from value end → end < from + 19 → end < length bytes
    → 48 ≤ get_or bytes end 0 → get_or bytes end 0 ≤ 57 → Reading bytes from (10 * value + (get_or bytes end 0 - 48)) (end + 1)
goes_on bytes from value end r more inside low high =
    let one_less : from + 19 - end ≡ suc (from + 19 - (end + 1)) = omega arith in
    let one_more : end + 1 - from ≡ end - from + 1 = omega (arith, r.begun) in
    let one = digit (get_or bytes end 0) low high in
    record {
      begun = omega (arith, r.begun);
      few = omega arith;
      within = omega arith;
      fits = rw one_more (one_digit_more_fits value (end - from) (get_or bytes end 0) r.fits high);
      keeps = sym (front_goes_on value bytes end (from + 19 - (end + 1)) inside one) ∙ rw one_less at r.keeps;
    }

-- Where no digit is left, the front is the one reached.
stops : (bytes : List ℕ) (from value end : ℕ) → Reading bytes from value end → (end < from + 19 → length bytes ≤ end)
    → record { value = value; end = end } ≡ front_of bytes from
stops bytes from value end r none =
    by_le (from + 19) end
    (λ full. sym (front_full value bytes end (from + 19 - end) (omega arith)) ∙ r.keeps)
    (λ more. sym (front_of_all value bytes end (from + 19 - end) (none more)) ∙ r.keeps)

-- Before a 19th digit the number has at most 18.
small : (c : goal.Else-not-is_ascii_digit) → c.loop-end.value < 10 ^ 18
small c = let turn = c.loop-end in fewer_digits_fit turn.value _ 18 turn.invariant.fits (omega arith)

pub loop-end-init : goal.loop-end-init
loop-end-init c = begins _ _ c.requires

pub returns-then-not-is_ascii_digit : goal.returns-then-not-is_ascii_digit
returns-then-not-is_ascii_digit c = let turn = c.loop-end in
    let other = digit_as_std _ c.is_ascii_digit.ensures.value c.if-not-is_ascii_digit.true in
    sym (front_ends turn.value _ turn.end _ (omega arith) other) ∙ turn.invariant.keeps

pub overflow_mul-value : goal.overflow_mul-value
overflow_mul-value c = record { fits = omega (arith, small c) }

pub overflow_add-value : goal.overflow_add-value
overflow_add-value c = record { fits = omega (arith, small c) }

pub loop-end-preserved : goal.loop-end-preserved
loop-end-preserved c = let is_digit = c.if-not-is_ascii_digit.ensures.cases in
    goes_on _ _ _ _ c.loop-end.invariant (omega arith) (omega arith) is_digit.0 is_digit.1

pub returns : goal.returns
returns c = let all : c.loop-end.end ≡ c.args.from + c.min.result = omega arith in
    rw (← all) (stops _ _ _ _ c.loop-end.invariant (λ more. omega arith))
