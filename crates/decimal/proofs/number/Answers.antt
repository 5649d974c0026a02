-- `decimal::number` is the number that the field is: its front of up to 19 digits, and a 20th digit if one follows.
use Rattle.std.proofs.Common.{◌≡◌, ℕ, ◌+◌, ◌*◌, ◌-◌, ◌<◌, List, length, get_or, ◌∙◌, arith}
use Rattle.decimal.specs.declared.Digits.{Digits}
use Rattle.decimal.specs.Decimal.{front_of}
use Rattle.decimal.proofs.ReadLaws.{empty_is_no_number, long_is_no_number, digit_as_std}
use Rattle.decimal.proofs.ReadLaws.{front_inside, front_is_the_field, no_digit_follows, digit_follows, too_much_follows}
use Rattle.decimal.proofs.number.Goals.{then-bytes-lt1-via-then-bytes-lt1, then-bytes-lt1-via-else-bytes-lt1+then-bytes-gt20}
use Rattle.decimal.proofs.number.Goals as goal

-- A byte follows the front if that is not the field.
follows : (bytes : List ℕ) {front : Digits} → front ≡ front_of bytes 0 → (front.end ≡ length bytes → ⊥) → front.end < length bytes
follows bytes is_front other = omega (arith, (front_inside bytes 0 (omega arith) is_front).1, other)

pub returns-then-bytes-lt1 : goal.returns-then-bytes-lt1
returns-then-bytes-lt1 c = elim c.then-bytes-lt1.branch [
  | then-bytes-lt1-via-then-bytes-lt1 w ↦ empty_is_no_number _ _ w.if-bytes-lt1.true
  | then-bytes-lt1-via-else-bytes-lt1+then-bytes-gt20 w ↦ long_is_no_number _ _ w.if-bytes-gt20.true
]

pub returns-then-end-bytes : goal.returns-then-end-bytes
returns-then-end-bytes c = c.at_most.ensures ∙ front_is_the_field _ _ (omega arith) (omega arith) c.front-value.ensures c.if-end-bytes.true

pub bounds-bytes-end : goal.bounds-bytes-end
bounds-bytes-end c = follows _ c.front-value.ensures c.if-end-bytes.false

pub returns-then-not-is_ascii_digit : goal.returns-then-not-is_ascii_digit
returns-then-not-is_ascii_digit c = let is_front = c.front-value.ensures in
    let other = digit_as_std _ c.is_ascii_digit.ensures.value c.if-not-is_ascii_digit.true in
    no_digit_follows _ _ (omega arith) (omega arith) is_front (follows _ is_front c.if-end-bytes.false) other

pub returns-in_err-checked_mul : goal.returns-in_err-checked_mul
returns-in_err-checked_mul c = let is_front = c.front-value.ensures in
    let one = digit_as_std _ c.is_ascii_digit.ensures.value c.if-not-is_ascii_digit.false in
    let more = follows _ is_front c.if-end-bytes.false in
    c.from_residual.ensures ∙ too_much_follows _ _ (omega arith) (omega arith) is_front more one (omega (arith, c.in_err-checked_mul.ensures))

pub returns-in_err-checked_add : goal.returns-in_err-checked_add
returns-in_err-checked_add c = let is_front = c.front-value.ensures in
    let one = digit_as_std _ c.is_ascii_digit.ensures.value c.if-not-is_ascii_digit.false in
    let more = follows _ is_front c.if-end-bytes.false in
    c.from_residual-in_err-checked_add.ensures
    ∙ too_much_follows _ _ (omega arith) (omega arith) is_front more one (omega (arith, c.in_ok-checked_mul.ensures.1, c.in_err-checked_add.ensures))

pub returns : goal.returns
returns c = let is_front = c.front-value.ensures in
    let byte = get_or c.args.bytes.now c.front-value.result.end 0 in
    let one = digit_as_std byte c.is_ascii_digit.ensures.value c.if-not-is_ascii_digit.false in
    let sum : c.in_ok-checked_add.field-0 ≡ 10 * c.front-value.result.value + (byte - 48) =
    omega (arith, c.in_ok-checked_mul.ensures.1, c.in_ok-checked_add.ensures.1) in
    c.at_most-2.ensures ∙ rw sum (digit_follows _ _ (omega arith) (omega arith) is_front (follows _ is_front c.if-end-bytes.false) one)
