-- A written line is read as its call, over the reader's own definition.
use Prim.Native.Nat.{ℕ, ◌+◌, ◌^◌, ◌≤◌, ◌<◌}
use native.Mathlib.Omega.{arith}
use mathlib.Core.Path.{◌≡◌, refl, sym, ap, ◌∙◌}
use mathlib.Core.Bool.{true, false, true≢false}
use mathlib.Core.List.{List, [], ◌∷◌, ◌++◌, map, append_assoc}
use lib.Dec.{eqb}
use lib.ListN.{length, take, drop, length-append}
use lib.Seq.{take-append_seam, drop-append_seam}
use Rattle.arith.proofs.Cases.{by_test}
use Rattle.units.specs.Units.{nanos_of}
use Rattle.decimal.specs.Decimal.{is_digit, all_digits, digits_of}
use Rattle.decimal.proofs.ReadBackLaws.{digits_are_digits, digits_read_back}
use Rattle.rows.specs.Outcome.{outcome}
use Rattle.scan.specs.Bytes.{index_after, index_of}
use Rattle.desk_lines.specs.declared.Request.{Request}
use Rattle.desk_lines.specs.Fields.{space, fields}
use Rattle.desk_lines.specs.Lines.{Reading, left, Taken, taken, taken_request, finished, most64, most32, longest_line, line_of_letter, line_of_fields}
use Rattle.desk_lines.specs.Lines as reader
use Rattle.desk_lines.specs.declared.Line.{Line}
use Rattle.desk_lines.specs.declared.Line.TheVariants as line
use Rattle.desk_lines.specs.Printed.{line_feed}
use Rattle.desk_lines.proofs.FieldLaws.{digit_is_no_space}
use Rattle.desk_writer.specs.declared.DeskCall.{DeskCall}
use Rattle.desk_writer.specs.declared.DeskCall.TheVariants.{Try, Peek, Reserve, Refund, Remove}
use Rattle.desk_writer.specs.Writer.{spaced, request_numbers, letter_of, numbers_of, bytes_of, written_line, written, as_read, RequestFits, Fits}
use Rattle.desk_writer.proofs.SizeLaws.{line_size}
use Rattle.desk_writer.proofs.LongestLaws.{written_line_has_at_most_76_bytes}
use borrow.Author.Tests.{le-leb, lt-leb, ne_eqb}

-- Digits in front of bytes whose first field is empty are that field.
pub digits_are_a_field : (ds bs : List ℕ) (fs : List (List ℕ)) → all_digits ds ≡ true → fields bs ≡ [] ∷ fs → fields (ds ++ bs) ≡ ds ∷ fs
unfolding fields all_digits
digits_are_a_field [] bs fs digits rest = rest
digits_are_a_field (d ∷ ds) bs fs digits rest =
    by_test (is_digit d)
    (λ one. rw (digit_is_no_space d one, digits_are_a_field ds bs fs (rw one at digits) rest))
    (λ other. absurd (true≢false (sym (rw other at digits))))

-- Each number with a space in front is a field more.
spaced_fields : (ns : List ℕ) → fields (spaced ns) ≡ [] ∷ map digits_of ns
unfolding fields spaced
spaced_fields [] = refl
spaced_fields (n ∷ ns) =
    ap (λ (fs : List (List ℕ)). [] ∷ fs) (digits_are_a_field (digits_of n) (spaced ns) (map digits_of ns) (digits_are_digits 20 n) (spaced_fields ns))

letter_is_a_field : (letter : ℕ) (ns : List ℕ) → eqb letter space ≡ false → fields (letter ∷ spaced ns) ≡ (letter ∷ []) ∷ map digits_of ns
unfolding fields
letter_is_a_field letter ns other = rw (other, spaced_fields ns)

-- A number's digits are taken as that number.
pub number_is_taken : (most n : ℕ) (fs : List (List ℕ)) → most < 2 ^ 64 → n ≤ most → taken most (left (digits_of n ∷ fs)) ≡ record { value = n; rest = left fs }
unfolding taken
number_is_taken most n fs narrow within = rw (digits_read_back n (omega arith) most within)

request_is_taken : (q : Request) (fs : List (List ℕ)) → RequestFits q
    → taken_request (left (map digits_of (request_numbers q) ++ fs)) ≡ record { value = q; rest = left fs }
request_is_taken q fs fits =
    let now_taken = number_is_taken most64 q.at.0 (digits_of q.key ∷ digits_of q.cost ∷ fs) (omega arith) fits.0 in
    let key_taken = number_is_taken most64 q.key (digits_of q.cost ∷ fs) (omega arith) fits.1.0 in
    rw (now_taken, key_taken, number_is_taken most32 q.cost fs (omega arith) fits.1.1)

-- By the kind of the call.
fields_read_back : (call : DeskCall) → Fits call → line_of_letter (letter_of call) (left (map digits_of (numbers_of call))) ≡ as_read call
unfolding line_of_letter
fields_read_back (Try q) fits = ap (λ (t : Taken Request). finished t.rest (line.Try t.value)) (request_is_taken q [] fits)
fields_read_back (Peek q) fits = ap (λ (t : Taken Request). finished t.rest (line.Peek t.value)) (request_is_taken q [] fits)
fields_read_back (Reserve q w) fits =
    let then : Taken Request → Line =
    λ t. let longest = taken most64 t.rest in finished longest.rest (line.Reserve t.value (nanos_of longest.value)) in
    ap then (request_is_taken q (digits_of w.0 ∷ []) fits.0) ∙ rw (number_is_taken most64 w.0 [] (omega arith) fits.1)
fields_read_back (Refund key cost) fits =
    rw (number_is_taken most64 key (digits_of cost ∷ []) (omega arith) fits.0, number_is_taken most32 cost [] (omega arith) fits.1)
fields_read_back (Remove key) fits = rw (number_is_taken most64 key [] (omega arith) fits)

letter_is_no_space : (call : DeskCall) → eqb (letter_of call) space ≡ false
letter_is_no_space (Try q) = refl
letter_is_no_space (Peek q) = refl
letter_is_no_space (Reserve q w) = refl
letter_is_no_space (Refund key cost) = refl
letter_is_no_space (Remove key) = refl

-- A line has at most 76 bytes, so it is not too long for the reader.
bytes_within : (call : DeskCall) → Fits call → length (bytes_of call) ≤ longest_line
bytes_within call fits = omega (arith, line_size call, written_line_has_at_most_76_bytes call fits)

-- The theorem: reading a written line, without its LF, gives the call again.
pub written_line_reads_back : (call : DeskCall) → Fits call → reader.line_of (bytes_of call) ≡ as_read call
unfolding reader.line_of
written_line_reads_back call fits =
    rw (le-leb (length (bytes_of call)) longest_line (bytes_within call fits), letter_is_a_field (letter_of call) (numbers_of call) (letter_is_no_space call))
    (fields_read_back call fits)

-- No byte before the LF is an LF, so the reader takes the line as one, whatever follows it.
digit_is_no_lf : (b : ℕ) → is_digit b ≡ true → eqb b line_feed ≡ false
unfolding is_digit
digit_is_no_lf b one = ne_eqb b line_feed (λ e. true≢false (sym one ∙ ap is_digit e))

digits_have_no_lf : (ds bs : List ℕ) → all_digits ds ≡ true → index_of line_feed (ds ++ bs) ≡ length ds + index_of line_feed bs
unfolding index_of index_after all_digits
digits_have_no_lf [] bs digits = omega arith
digits_have_no_lf (d ∷ ds) bs digits =
    by_test (is_digit d)
    (λ one. rw (digit_is_no_lf d one) (omega (arith, digits_have_no_lf ds bs (rw one at digits))))
    (λ other. absurd (true≢false (sym (rw other at digits))))

spaced_have_no_lf : (ns bs : List ℕ) → index_of line_feed (spaced ns ++ bs) ≡ length (spaced ns) + index_of line_feed bs
unfolding index_of index_after spaced
spaced_have_no_lf [] bs = omega arith
spaced_have_no_lf (n ∷ ns) bs =
    let apart = append_assoc (digits_of n) (spaced ns) bs in
    rw apart (omega
    (arith, digits_have_no_lf (digits_of n) (spaced ns ++ bs) (digits_are_digits 20 n), spaced_have_no_lf ns bs, length-append (digits_of n) (spaced ns)))

letter_is_no_lf : (call : DeskCall) → eqb (letter_of call) line_feed ≡ false
letter_is_no_lf (Try q) = refl
letter_is_no_lf (Peek q) = refl
letter_is_no_lf (Reserve q w) = refl
letter_is_no_lf (Refund key cost) = refl
letter_is_no_lf (Remove key) = refl

pub written_line_ends_at_its_first_lf : (call : DeskCall) (more : List ℕ) → index_of line_feed (bytes_of call ++ (line_feed ∷ more)) ≡ length (bytes_of call)
unfolding index_of index_after
written_line_ends_at_its_first_lf call more =
    rw (letter_is_no_lf call) (omega (arith, spaced_have_no_lf (numbers_of call) (line_feed ∷ more), first_is_lf more))
  where
    first_is_lf : (bs : List ℕ) → index_of line_feed (line_feed ∷ bs) ≡ 0
    first_is_lf bs = refl

-- What a buffer holds after a call of the writer: the line, and the bytes past it as they were; where the buffer is too short, all bytes as they were.
module _ (call : DeskCall) (buffer : List ℕ) where
  pub buffer_begins_with_the_line : length (written_line call) ≤ length buffer
      → take (length (written_line call)) (written call buffer).after ≡ written_line call
  unfolding written
  buffer_begins_with_the_line room =
      rw (le-leb (length (written_line call)) (length buffer) room) (take-append_seam (written_line call) (drop (length (written_line call)) buffer))

  pub bytes_past_the_line_stay : length (written_line call) ≤ length buffer
      → drop (length (written_line call)) (written call buffer).after ≡ drop (length (written_line call)) buffer
  unfolding written
  bytes_past_the_line_stay room =
      rw (le-leb (length (written_line call)) (length buffer) room) (drop-append_seam (written_line call) (drop (length (written_line call)) buffer))

  pub refusal_changes_no_byte : length buffer < length (written_line call) → written call buffer ≡ outcome (record { number = 13; size = 0 }) buffer
  unfolding written
  refusal_changes_no_byte short = rw (lt-leb (length (written_line call)) (length buffer) short)
