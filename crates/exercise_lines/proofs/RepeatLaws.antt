-- Which calls a `v` line stands for, test by test; and that every call before one within 64 bits is so too.
use Rattle.std.proofs.Common.{Option, Some, None}
use Prim.Native.Nat.{ℕ, ◌+◌, ◌*◌, ◌-◌, ◌/◌, ◌≤◌, ◌<◌}
use native.Mathlib.Omega.{arith}
use native.Mathlib.Nat.{le-div_iff_mul-le, div-lt_iff_lt-mul, mul-le-mul_right}
use Rattle.std.specs.List.{starts_with}
use Rattle.std.proofs.lemmas.Bool.Decides.{nat_tests}
use mathlib.Core.Path.{◌≡◌, refl, sym, ◌∙◌}
use mathlib.Core.Bool.{true, false, true≢false}
use mathlib.Core.List.{List, [], ◌∷◌}
use lib.Dec.{eqb, leb}
use lib.ListN.{length, take, drop, length-drop}
use lib.Seq.{take_all}
use Rattle.arith.proofs.Cases.{by_test, by_le}
use Rattle.rows.specs.Segments.{segment}
use Rattle.decimal.specs.Decimal.{number_of}
use Rattle.desk_lines.specs.declared.Request.{Request}
use Rattle.desk_lines.specs.declared.Line.{Line}
use Rattle.desk_lines.specs.declared.Line.TheVariants as line
use Rattle.desk_lines.specs.Fields.{field_end}
use Rattle.desk_lines.specs.Lines.{most64, line_of}
use Rattle.desk_writer.specs.declared.DeskCall.{DeskCall}
use Rattle.desk_writer.specs.declared.DeskCall.TheVariants.{Try, Peek, Reserve, Refund, Remove}
use Rattle.exercise_lines.specs.declared.Repeat.{Repeat}
use Rattle.exercise_lines.specs.declared.Repeat.TheVariants.{Other}
use Rattle.exercise_lines.specs.Repeats.{request_within, within64, of_call, of_line, of_parts, most_lines, spacing_at, of_bytes}
use Rattle.exercise_lines.specs.Repeats.{begins_with_v, repeat_of, Within}
use borrow.Author.Tests.{leb-true, le-leb, lt-leb, eq-eqb, ne_eqb}

-- The tests of the code, which make no number of more than 64 bits.
pub key_by_difference : (key place : ℕ) → key ≤ most64 → leb place (most64 - key) ≡ leb (key + place) most64
key_by_difference key place fits =
    by_le place (most64 - key)
    (λ few. rw (le-leb place (most64 - key) few, le-leb (key + place) most64 (omega arith)))
    (λ many. rw (lt-leb place (most64 - key) many, lt-leb (key + place) most64 (omega arith)))

pub moment_by_division : (at spacing place : ℕ) → at ≤ most64 → 0 < spacing → leb place ((most64 - at) / spacing) ≡ leb (at + place * spacing) most64
moment_by_division at spacing place fits some =
    by_le place ((most64 - at) / spacing)
    (λ few. let product : place * spacing ≤ most64 - at = (le-div_iff_mul-le some).0 few in
    rw (le-leb place ((most64 - at) / spacing) few, le-leb (at + place * spacing) most64 (omega arith)))
    (λ many. let product : most64 - at < place * spacing = (div-lt_iff_lt-mul some).0 many in
    rw (lt-leb place ((most64 - at) / spacing) many, lt-leb (at + place * spacing) most64 (omega arith)))

-- What the test of a request says of its two numbers, and that they say it.
pub record Both (spacing place : ℕ) (q : Request) : Type 0 where
  pub moment : q.at.0 + place * spacing ≤ most64
  pub key : q.key + place ≤ most64

pub both_within : (spacing place : ℕ) (q : Request) → request_within spacing place q ≡ true → Both spacing place q
unfolding request_within
both_within spacing place q is =
    by_test (leb (q.at.0 + place * spacing) most64)
    (λ t. record { moment = leb-true _ _ t; key = leb-true _ _ (rw t at is) })
    (λ t. absurd (true≢false (sym is ∙ rw t)))

pub within_both : (spacing place : ℕ) (q : Request) → Both spacing place q → request_within spacing place q ≡ true
unfolding request_within
within_both spacing place q b = rw (le-leb (q.at.0 + place * spacing) most64 b.moment, le-leb (q.key + place) most64 b.key)

-- A call before one within 64 bits is within 64 bits.
module _ (spacing place last : ℕ) (before : place ≤ last) where
  request_before : (q : Request) → request_within spacing last q ≡ true → request_within spacing place q ≡ true
  request_before q is =
      let b = both_within spacing last q is in
      let less : place * spacing ≤ last * spacing = mul-le-mul_right spacing before in
      within_both spacing place q (record { moment = omega (arith, b.moment); key = omega (arith, b.key) })

  key_before : (key : ℕ) → leb (key + last) most64 ≡ true → leb (key + place) most64 ≡ true
  key_before key is = le-leb (key + place) most64 (omega (arith, leb-true (key + last) most64 is))

  pub call_before : (call : DeskCall) → within64 spacing last call ≡ true → within64 spacing place call ≡ true
  unfolding within64
  call_before (Try q) is = request_before q is
  call_before (Peek q) is = request_before q is
  call_before (Reserve q w) is = request_before q is
  call_before (Refund key cost) is = key_before key is
  call_before (Remove key) is = key_before key is

-- A moment does not change without a spacing.
pub moment_without_spacing : (at spacing place : ℕ) → at ≤ most64 → spacing ≡ 0 → true ≡ leb (at + place * spacing) most64
moment_without_spacing at spacing place fits none = sym (le-leb (at + place * spacing) most64 (rw none (omega arith)))

-- How a line begins.
pub v_is_ahead : (bytes : List ℕ) → starts_with eqb bytes (118 ∷ 32 ∷ []) ≡ begins_with_v bytes
unfolding begins_with_v
v_is_ahead [] = refl
v_is_ahead (a ∷ []) = grind (arith, nat_tests)
v_is_ahead (a ∷ b ∷ bs) = grind (arith, nat_tests)

module _ (bytes : List ℕ) where
  pub v_has_two_bytes : begins_with_v bytes ≡ true → 2 ≤ length bytes
  unfolding begins_with_v
  v_has_two_bytes is =
      by_test (leb 2 (length bytes))
      (λ t. leb-true 2 (length bytes) t)
      (λ t. absurd (true≢false (sym is ∙ rw t)))

-- A line by where its two numbers end: one of them has no space behind it, or the calls are those of its parts.
module _ (bytes : List ℕ) {end : ℕ} (ends : end ≡ field_end bytes 2) where
  pub no_spacing : end ≡ length bytes → Other ≡ of_bytes bytes
  unfolding of_bytes
  no_spacing last = rw (eq-eqb (field_end bytes 2) (length bytes) (sym ends ∙ last))

  module _ (more : end ≡ length bytes → ⊥) {end' : ℕ} (ends' : end' ≡ field_end bytes (end + 1)) where
    has_spacing : eqb (field_end bytes 2) (length bytes) ≡ false
    has_spacing = ne_eqb (field_end bytes 2) (length bytes) (λ e. more (ends ∙ e))

    is_next : field_end bytes (spacing_at bytes) ≡ end'
    is_next = sym (rw ends at ends')

    pub no_call : end' ≡ length bytes → Other ≡ of_bytes bytes
    unfolding of_bytes
    no_call last = rw (has_spacing, eq-eqb (field_end bytes (spacing_at bytes)) (length bytes) (is_next ∙ last))

    pub of_all_parts : (end' ≡ length bytes → ⊥) → {r : Repeat} {n m : Option ℕ} {l : Line} → r ≡ of_parts n m l
        → n ≡ number_of most_lines (segment 2 (end - 2) bytes) → m ≡ number_of most64 (segment (end + 1) (end' - (end + 1)) bytes)
        → l ≡ line_of (segment (end' + 1) (length bytes - (end' + 1)) bytes) → r ≡ of_bytes bytes
    unfolding of_bytes
    of_all_parts more' is is_count is_spacing is_line =
        let has_call = ne_eqb (field_end bytes (spacing_at bytes)) (length bytes) (λ e. more' (sym is_next ∙ e)) in
        let rest = drop (end' + 1) bytes in
        let all : take (length bytes - (end' + 1)) rest ≡ rest = take_all (length bytes - (end' + 1)) rest (omega (arith, length-drop (end' + 1) bytes)) in
        rw (has_spacing, has_call, is_next, ← ends) (rw (is_count, is_spacing, is_line, all) at is)

-- The calls of a line that is read are within 64 bits.
call_is_within : (count spacing : ℕ) (call : DeskCall) → Within (of_call count spacing call)
unfolding of_call
call_is_within count spacing call = by_test (within64 spacing (count - 1) call) (λ t. rw t t) (λ t. rw t tt)

line_is_within : (count spacing : ℕ) (l : Line) → Within (of_line count spacing l)
unfolding of_line
line_is_within count spacing (line.Try q) = call_is_within count spacing (Try q)
line_is_within count spacing (line.Peek q) = call_is_within count spacing (Peek q)
line_is_within count spacing (line.Reserve q w) = call_is_within count spacing (Reserve q w)
line_is_within count spacing (line.Refund key cost) = call_is_within count spacing (Refund key cost)
line_is_within count spacing (line.Remove key) = call_is_within count spacing (Remove key)
line_is_within count spacing (line.SetUp s) = tt
line_is_within count spacing line.Malformed = tt

parts_are_within : (n m : Option ℕ) (l : Line) → Within (of_parts n m l)
unfolding of_parts
parts_are_within None m l = tt
parts_are_within (Some count) None l = tt
parts_are_within (Some count) (Some spacing) l = line_is_within count spacing l

bytes_are_within : (bytes : List ℕ) → Within (of_bytes bytes)
unfolding of_bytes
bytes_are_within bytes =
    by_test (eqb (field_end bytes 2) (length bytes))
    (λ t. rw t tt)
    (λ t. by_test (eqb (field_end bytes (spacing_at bytes)) (length bytes))
    (λ u. rw (t, u) tt)
    (λ u. rw (t, u) (parts_are_within _ _ _)))

repeat_is_within : (bytes : List ℕ) → Within (repeat_of bytes)
unfolding repeat_of
repeat_is_within bytes = by_test (begins_with_v bytes) (λ t. rw t (bytes_are_within bytes)) (λ t. rw t tt)

pub read_is_within : (bytes : List ℕ) {r : Repeat} → r ≡ repeat_of bytes → Within r
read_is_within bytes is = rw is (repeat_is_within bytes)
