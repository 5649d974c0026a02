-- Every line that is read as a call is at least as long as the one that is written for it.
use Prim.Native.Nat.{ℕ, zero, suc, ◌+◌, ◌*◌, ◌-◌, ◌/◌, ◌%◌, ◌^◌, ◌≤◌, ◌<◌}
use native.Mathlib.Omega.{arith}
use native.Mathlib.Nat.{pow-suc, add-zero, zero-add}
use mathlib.Core.Path.{◌≡◌, refl, sym, ap, ◌∙◌}
use mathlib.Core.Bool.{Bool, true, false, true≢false}
use mathlib.Core.List.{List, [], ◌∷◌, ◌++◌}
use lib.Dec.{eqb, leb}
use lib.ListN.{length, length-append}
use Rattle.arith.proofs.Cases.{by_test, by_le}
use Rattle.decimal.specs.Decimal.{is_digit, all_digits, decimal_from, number_of, digits_from}
use Rattle.decimal.proofs.ReadLaws.{one_digit_more_fits}
use Rattle.decimal.proofs.WriteLaws.{one_digit, more_digits, some_left}
use Rattle.desk_lines.specs.declared.Line.{Line}
use Rattle.desk_lines.specs.declared.Line.TheVariants as line
use Rattle.desk_lines.specs.Fields.{space, fields, on_first}
use Rattle.desk_lines.specs.Lines.{Reading, failed, left, Taken, taken_number, taken, taken_request, is_finished, finished, most64, most32, longest_line}
use Rattle.desk_lines.specs.Lines.{taken_rate, taken_idle, most_rule, line_of_letter, line_of_fields}
use Rattle.desk_lines.specs.Lines as reader
use Rattle.desk_lines.specs.Printed.{line_feed}
use Rattle.desk_writer.specs.declared.DeskCall.{DeskCall}
use Rattle.desk_writer.specs.declared.DeskCall.TheVariants.{Try, Peek, Reserve, Refund, Remove}
use Rattle.desk_writer.specs.Writer.{field, spaced, request_numbers, bytes_of, written_line, as_read}
use Rattle.desk_writer.proofs.SizeLaws.{spaced_none_size, spaced_size, spaced_append_size}
use borrow.Author.Tests.{leb-true}

-- So many digits make a number below that power of ten.
digits_fit : (n k : ℕ) (bs : List ℕ) → n < 10 ^ k → all_digits bs ≡ true → decimal_from n bs < 10 ^ (k + length bs)
unfolding all_digits decimal_from is_digit
digits_fit n k [] fits digits = rw add-zero fits
digits_fit n k (b ∷ bs) fits digits =
    by_test (is_digit b)
    (λ one. let more : k + suc (length bs) ≡ k + 1 + length bs = omega arith in
    rw more (digits_fit (10 * n + (b - 48)) (k + 1) bs (one_digit_more_fits n k b fits (digit_high b one)) (rw one at digits)))
    (λ other. absurd (true≢false (sym (rw other at digits))))
  where
    digit_high : (d : ℕ) → is_digit d ≡ true → d ≤ 57
    digit_high d one =
        by_test (leb 48 d)
        (λ low. leb-true d 57 (rw low at one))
        (λ below. absurd (true≢false (sym (rw below at one))))

-- A number below a power of ten has no more digits than that.
pub few_digits_below : (all n k : ℕ) → 1 ≤ k → n < 10 ^ k → length (digits_from all n) ≤ k
unfolding digits_from
few_digits_below zero n k some fits = omega arith
few_digits_below (suc all) n zero some fits = absurd (omega arith)
few_digits_below (suc all) n (suc k) some fits =
    by_le 10 n
    (λ many. let tenth : n / 10 < 10 ^ k = omega (arith, pow-suc 10 k) in
    rw (more_digits all n many)
    (omega (
      arith,
      length-append (digits_from all (n / 10)) ((48 + n % 10) ∷ []),
      few_digits_below all (n / 10) k (some_left k (n / 10) tenth (omega arith)) tenth,
    )))
    (λ few. rw (one_digit all n few) (omega arith))

-- The bytes of fields, with one more for each.
unfoldable sizes : List (List ℕ) → ℕ
sizes [] = 0
sizes (f ∷ fs) = suc (length f) + sizes fs

-- The bytes that are left of a reading, and whether it has not failed.
abbrev size_of : Reading → ℕ
size_of failed = 0
size_of (left fs) = sizes fs

abbrev is_good : Reading → Bool
is_good failed = false
is_good (left fs) = true

-- A number that was taken, with its space, took at least the bytes that are written for it.
record Shortest (r rest : Reading) (size : ℕ) : Type 0 where
  good : is_good r ≡ true
  within : size + size_of rest ≤ size_of r

number_is_shortest : (most : ℕ) (f : List ℕ) (fs : List (List ℕ)) → let t = taken_number fs (number_of most f) in
    is_good t.rest ≡ true → length (field t.value) + size_of t.rest ≤ sizes (f ∷ fs)
unfolding number_of sizes
number_is_shortest most f fs =
    by_test (leb 1 (length f))
    (λ t. by_test (leb (length f) 20)
    (λ u. by_test (all_digits f)
    (λ v. by_test (leb (decimal_from 0 f) most)
    (λ w. rw (t, u, v, w)
    (λ good. omega (arith, few_digits_below 20 (decimal_from 0 f) (length f) (leb-true 1 (length f) t) (rw zero-add at (digits_fit 0 0 f (omega arith) v)))))
    (λ w. rw (t, u, v, w) (λ bad. absurd (true≢false (sym bad)))))
    (λ v. rw (t, u, v) (λ bad. absurd (true≢false (sym bad)))))
    (λ u. rw (t, u) (λ bad. absurd (true≢false (sym bad)))))
    (λ t. rw t (λ bad. absurd (true≢false (sym bad))))

taken_is_shortest : (most : ℕ) (r : Reading) → is_good (taken most r).rest ≡ true → Shortest r (taken most r).rest (length (field (taken most r).value))
unfolding taken
taken_is_shortest most failed bad = absurd (true≢false (sym bad))
taken_is_shortest most (left []) bad = absurd (true≢false (sym bad))
taken_is_shortest most (left (f ∷ fs)) good = record { good = refl; within = number_is_shortest most f fs good }

request_is_shortest : (r : Reading) → is_good (taken_request r).rest ≡ true
    → Shortest r (taken_request r).rest (length (spaced (request_numbers (taken_request r).value)))
request_is_shortest r good =
    let now = taken most64 r in
    let key = taken most64 now.rest in
    let cost = taken most32 key.rest in
    let third = taken_is_shortest most32 key.rest good in
    let second = taken_is_shortest most64 now.rest third.good in
    let first = taken_is_shortest most64 r second.good in
    let size = spaced_size now.value (key.value ∷ cost.value ∷ []) in
    record {
      good = first.good;
      within = omega (
        arith,
        first.within,
        second.within,
        third.within,
        size,
        spaced_size key.value (cost.value ∷ []),
        spaced_size cost.value [],
        spaced_none_size,
      );
    }

-- The bytes that are written for a line without its LF: none for a settings line or a malformed one, which no call is.
abbrev needed : Line → ℕ
needed (line.SetUp s) = 0
needed (line.Try q) = length (bytes_of (Try q))
needed (line.Peek q) = length (bytes_of (Peek q))
needed (line.Reserve q w) = length (bytes_of (Reserve q w))
needed (line.Refund key cost) = length (bytes_of (Refund key cost))
needed (line.Remove key) = length (bytes_of (Remove key))
needed line.Malformed = 0

needed_for_call : (call : DeskCall) → needed (as_read call) ≡ length (bytes_of call)
needed_for_call (Try q) = refl
needed_for_call (Peek q) = refl
needed_for_call (Reserve q w) = refl
needed_for_call (Refund key cost) = refl
needed_for_call (Remove key) = refl

-- A line that its fields make has that many bytes where the reading is finished.
needed_if_finished : (r : Reading) (l : Line) (n : ℕ) → (is_finished r ≡ true → needed l ≤ n) → needed (finished r l) ≤ n
needed_if_finished r l n within = by_test (is_finished r) (λ t. rw t (within t)) (λ t. rw t (omega arith))

finished_is_good : (r : Reading) → is_finished r ≡ true → is_good r ≡ true
finished_is_good failed t = t
finished_is_good (left []) t = t
finished_is_good (left (f ∷ fs)) t = refl

module _ (r : Reading) where
  reserve_needs : needed (reader.reserve r) ≤ suc (size_of r)
  reserve_needs =
      let request = taken_request r in
      let longest = taken most64 request.rest in
      needed_if_finished longest.rest _ (suc (size_of r)) (λ t.
      let last = taken_is_shortest most64 request.rest (finished_is_good longest.rest t) in
      let first = request_is_shortest r last.good in
      let sizes' = spaced_append_size (request_numbers request.value) (longest.value ∷ []) in
      omega (arith, first.within, last.within, sizes', spaced_size longest.value [], spaced_none_size))

  refund_needs : needed (reader.refund r) ≤ suc (size_of r)
  refund_needs =
      let key = taken most64 r in
      let cost = taken most32 key.rest in
      needed_if_finished cost.rest _ (suc (size_of r)) (λ t.
      let second = taken_is_shortest most32 key.rest (finished_is_good cost.rest t) in
      let first = taken_is_shortest most64 r second.good in
      omega (arith, first.within, second.within, spaced_size key.value (cost.value ∷ []), spaced_size cost.value [], spaced_none_size))

  remove_needs : needed (reader.remove r) ≤ suc (size_of r)
  remove_needs =
      let key = taken most64 r in
      needed_if_finished key.rest _ (suc (size_of r)) (λ t.
      let first = taken_is_shortest most64 r (finished_is_good key.rest t) in
      omega (arith, first.within, spaced_size key.value [], spaced_none_size))

  request_needs : is_finished (taken_request r).rest ≡ true → suc (length (spaced (request_numbers (taken_request r).value))) ≤ suc (size_of r)
  request_needs t = omega (arith, (request_is_shortest r (finished_is_good (taken_request r).rest t)).within)

  set_up_needs : needed (reader.set_up r) ≤ suc (size_of r)
  set_up_needs =
      let shards = taken most64 (taken most64 (taken_rate r).rest).rest in
      let rule = taken most_rule (taken_idle shards.rest).rest in
      by_test (is_finished rule.rest) (λ t. rw t (omega arith)) (λ t. rw t (omega arith))

  letter_needs : (letter : ℕ) → needed (line_of_letter letter r) ≤ suc (size_of r)
  unfolding line_of_letter
  letter_needs letter =
      by_test (eqb letter 97) (λ t. rw t (needed_if_finished (taken_request r).rest _ _ request_needs))
      (λ a. by_test (eqb letter 112) (λ t. rw (a, t) (needed_if_finished (taken_request r).rest _ _ request_needs))
      (λ p. by_test (eqb letter 114) (λ t. rw (a, p, t) reserve_needs)
      (λ r'. by_test (eqb letter 102) (λ t. rw (a, p, r', t) refund_needs)
      (λ f. by_test (eqb letter 100) (λ t. rw (a, p, r', f, t) remove_needs)
      (λ d. by_test (eqb letter 115) (λ t. rw (a, p, r', f, d, t) set_up_needs)
      (λ s. rw (a, p, r', f, d, s) (omega arith)))))))

-- The fields of some bytes have them all, and a space between each two.
fields_size : (bs : List ℕ) → sizes (fields bs) ≡ suc (length bs)
unfolding fields sizes
fields_size [] = omega arith
fields_size (b ∷ bs) = by_test (eqb b space) (λ t. rw t (omega (arith, fields_size bs)))
    (λ t. rw t (on_first_size (fields bs) (omega (arith, fields_size bs)) ∙ ap suc (fields_size bs)))
  where
    on_first_size : (fs : List (List ℕ)) → 1 ≤ sizes fs → sizes (on_first b fs) ≡ suc (sizes fs)
    on_first_size [] some = absurd (omega arith)
    on_first_size (f ∷ fs) some = omega arith

fields_need : (fs : List (List ℕ)) → needed (line_of_fields fs) ≤ sizes fs - 1
unfolding sizes
fields_need [] = omega arith
fields_need ([] ∷ fs) = omega arith
fields_need ((letter ∷ []) ∷ fs) = omega (arith, letter_needs (left fs) letter)
fields_need ((letter ∷ b ∷ bs) ∷ fs) = omega arith

bytes_need : (bs : List ℕ) → needed (reader.line_of bs) ≤ length bs
unfolding reader.line_of
bytes_need bs =
    by_test (leb (length bs) longest_line)
    (λ t. rw t (omega (arith, fields_need (fields bs), fields_size bs)))
    (λ t. rw t (omega arith))

-- The theorem: of all lines read as a call and ended by LF, the written one is the shortest.
pub written_line_is_shortest : (call : DeskCall) (bs : List ℕ) → reader.line_of bs ≡ as_read call → length (written_line call) ≤ length (bs ++ (line_feed ∷ []))
written_line_is_shortest call bs is =
    omega (
      arith,
      bytes_need bs,
      ap needed is,
      needed_for_call call,
      length-append (bytes_of call) (line_feed ∷ []),
      length-append bs (line_feed ∷ []),
    )
