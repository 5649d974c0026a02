-- No line that is written has more than 76 bytes, so a buffer of 76 bytes has room for the line of every call.
use Prim.Native.Nat.{ℕ, ◌+◌, ◌≤◌}
use native.Mathlib.Omega.{arith}
use mathlib.Core.Path.{◌≡◌}
use mathlib.Core.List.{List, [], ◌∷◌}
use lib.Dec.{leb}
use lib.ListN.{length}
use Rattle.arith.proofs.Cases.{by_test}
use Rattle.rows.specs.Outcome.{outcome}
use Rattle.rows.proofs.OutcomeLaws.{answer_is}
use Rattle.decimal.proofs.WriteLaws.{digits_count}
use Rattle.desk_lines.specs.declared.Request.{Request}
use Rattle.desk_lines.specs.Lines.{most32}
use Rattle.desk_writer.specs.declared.DeskCall.{DeskCall}
use Rattle.desk_writer.specs.declared.DeskCall.TheVariants.{Try, Peek, Reserve, Refund, Remove}
use Rattle.desk_writer.specs.declared.Written.{Written}
use Rattle.desk_writer.specs.Writer.{field, spaced, request_numbers, numbers_of, written_line, written, RequestFits, Fits, longest_written}
use Rattle.desk_writer.proofs.SizeLaws.{spaced_none_size, spaced_size, spaced_append_size, line_size}
use Rattle.desk_writer.proofs.ShortestLaws.{few_digits_below}
use borrow.Author.Tests.{le-leb, leb-true}

-- A number has at most 20 digits, a cost at most 10. Each has a space in front.
number_size_within : (n : ℕ) → length (field n) ≤ 21
number_size_within n = omega (arith, digits_count n)

cost_size_within : (n : ℕ) → n ≤ most32 → length (field n) ≤ 11
cost_size_within n fits = omega (arith, few_digits_below 20 n 10 (omega arith) (omega arith))

request_size_within : (q : Request) → RequestFits q → length (spaced (request_numbers q)) ≤ 53
request_size_within q fits =
    omega (
      arith,
      spaced_size q.at.0 (q.key ∷ q.cost ∷ []),
      spaced_size q.key (q.cost ∷ []),
      spaced_size q.cost [],
      spaced_none_size,
      number_size_within q.at.0,
      number_size_within q.key,
      cost_size_within q.cost fits.1.1,
    )

-- By the kind of the call.
numbers_within : (call : DeskCall) → Fits call → 2 + length (spaced (numbers_of call)) ≤ longest_written
numbers_within (Try q) fits = omega (arith, request_size_within q fits)
numbers_within (Peek q) fits = omega (arith, request_size_within q fits)
numbers_within (Reserve q w) fits =
    let both = spaced_append_size (request_numbers q) (w.0 ∷ []) in
    omega (arith, both, request_size_within q fits.0, spaced_size w.0 [], spaced_none_size, number_size_within w.0)
numbers_within (Refund key cost) fits =
    let both = spaced_size key (cost ∷ []) in
    omega (arith, both, spaced_size cost [], spaced_none_size, number_size_within key, cost_size_within cost fits.1)
numbers_within (Remove key) fits = omega (arith, spaced_size key [], spaced_none_size, number_size_within key)

-- The theorem, and what it means for a buffer: one of 76 bytes is never refused. `longest_reserve` of Worked has a line of 76 bytes.
pub written_line_has_at_most_76_bytes : (call : DeskCall) → Fits call → length (written_line call) ≤ longest_written
written_line_has_at_most_76_bytes call fits = omega (arith, line_size call, numbers_within call fits)

pub longest_buffer_is_not_refused : (call : DeskCall) (buffer : List ℕ) → Fits call → longest_written ≤ length buffer
    → (written call buffer).answer ≡ record { number = 0; size = length (written_line call) }
unfolding written
longest_buffer_is_not_refused call buffer fits room =
    let line : length (written_line call) ≤ length buffer = omega (arith, written_line_has_at_most_76_bytes call fits) in
    rw (le-leb (length (written_line call)) (length buffer) line)

-- The length that is told is within the buffer, written or refused.
size_within : (call : DeskCall) (buffer : List ℕ) → (written call buffer).answer.size ≤ length buffer
unfolding written
size_within call buffer =
    by_test (leb (length (written_line call)) (length buffer))
    (λ t. rw t (leb-true (length (written_line call)) (length buffer) t))
    (λ t. rw t (omega arith))

pub told_size_within : (call : DeskCall) (buffer : List ℕ) {w : Written} {bytes : List ℕ} → outcome w bytes ≡ written call buffer → w.size ≤ length buffer
told_size_within call buffer gave = rw (answer_is gave) (size_within call buffer)
