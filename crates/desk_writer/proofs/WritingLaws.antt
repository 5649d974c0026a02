-- A line is stored number by number, and what is stored is the line of the definition.
use Prim.Native.Nat.{ℕ, ◌+◌, ◌≤◌}
use native.Mathlib.Omega.{arith}
use native.Mathlib.Nat.{zero-add}
use mathlib.Core.Path.{◌≡◌, refl, sym, ap, ◌∙◌}
use mathlib.Core.List.{List, [], ◌∷◌, ◌++◌, append-nil}
use lib.ListN.{length, drop, set}
use lib.Seq.{length-sets, sets-eq}
use Rattle.rows.specs.Outcome.{Outcome, outcome}
use Rattle.rows.proofs.OutcomeLaws.{answer_is, after_is}
use Rattle.decimal.specs.Decimal.{digits_of}
use Rattle.desk_lines.specs.Printed.{line_feed, written_over}
use Rattle.desk_lines.proofs.PrintLaws.{written_after}
use Rattle.units.specs.declared.Nanos.{Nanos}
use Rattle.desk_lines.specs.declared.Request.{Request}
use Rattle.desk_writer.specs.declared.DeskCall.{DeskCall}
use Rattle.desk_writer.specs.declared.DeskCall.TheVariants.{Try, Peek, Reserve, Refund, Remove}
use Rattle.desk_writer.specs.Writer.{field, spaced, request_numbers, bytes_of, written_line, written}
use Rattle.desk_writer.proofs.SizeLaws.{spaced_none_size, spaced_size, spaced_append, spaced_append_size, line_size}
use borrow.Author.Tests.{le-leb}

-- One number in a row is its field.
spaced_one : (n : ℕ) → spaced (n ∷ []) ≡ field n
unfolding spaced
spaced_one n = append-nil (field n)

-- How many bytes a line has, by the kind of the call.
pub try_size : (q : Request) {r : ℕ} → r ≡ length (spaced (request_numbers q)) → 2 + r ≡ length (written_line (Try q))
try_size q is = omega (arith, is, line_size (Try q))

pub peek_size : (q : Request) {r : ℕ} → r ≡ length (spaced (request_numbers q)) → 2 + r ≡ length (written_line (Peek q))
peek_size q is = omega (arith, is, line_size (Peek q))

pub reserve_size : (q : Request) (w : Nanos) {r s : ℕ} → r ≡ length (spaced (request_numbers q)) → s ≡ length (field w.0)
    → 2 + r + s ≡ length (written_line (Reserve q w))
reserve_size q w is then =
    omega (arith, is, then, line_size (Reserve q w), spaced_append_size (request_numbers q) (w.0 ∷ []), spaced_size w.0 [], spaced_none_size)

pub refund_size : (key cost : ℕ) {r s : ℕ} → r ≡ length (field key) → s ≡ length (field cost) → 2 + r + s ≡ length (written_line (Refund key cost))
refund_size key cost is then =
    omega (arith, is, then, line_size (Refund key cost), spaced_size key (cost ∷ []), spaced_size cost [], spaced_none_size)

pub remove_size : (key : ℕ) {r : ℕ} → r ≡ length (field key) → 2 + r ≡ length (written_line (Remove key))
remove_size key is = omega (arith, is, line_size (Remove key), spaced_size key [], spaced_none_size)

-- The letter alone.
pub letter_is_written : (letter : ℕ) (bytes : List ℕ) → outcome 1 (set bytes 0 letter) ≡ written_over (letter ∷ spaced []) 0 bytes
unfolding spaced
letter_is_written letter bytes = refl

-- A space and then the digits are a field.
pub field_is_written : (at n : ℕ) (bytes : List ℕ) {o : Outcome ℕ (List ℕ)} → o ≡ written_over (digits_of n) (at + 1) (set bytes at 32)
    → o ≡ written_over (field n) at bytes
field_is_written at n bytes gave = written_after (32 ∷ []) (digits_of n) at bytes refl gave

-- Some numbers of a line are stored, and the next one is n: there is room for it where there is room for the line, and with it one number more is stored.
module _ (letter : ℕ) (ms : List ℕ) (n : ℕ) (bytes : List ℕ) {place : ℕ} {bytes' : List ℕ}
    (gave : outcome place bytes' ≡ written_over (letter ∷ spaced ms) 0 bytes) where
  pub room_for_next : (ns : List ℕ) → length (letter ∷ spaced (ms ++ (n ∷ ns))) ≤ length bytes → place + length (field n) ≤ length bytes'
  room_for_next ns room =
      let same : length bytes' ≡ length bytes = ap length (after_is gave) ∙ length-sets bytes 0 (letter ∷ spaced ms) in
      omega (arith, answer_is gave, spaced_append_size ms (n ∷ ns), spaced_size n ns, same, room)

  pub next_is_written : {o : Outcome ℕ (List ℕ)} → o ≡ written_over (field n) place bytes' → o ≡ written_over (letter ∷ spaced (ms ++ (n ∷ []))) 0 bytes
  next_is_written then =
      let all : spaced ms ++ field n ≡ spaced (ms ++ (n ∷ [])) = ap (λ (bs : List ℕ). spaced ms ++ bs) (sym (spaced_one n)) ∙ sym (spaced_append ms (n ∷ [])) in
      written_after (letter ∷ spaced ms) (field n) 0 bytes gave then ∙ ap (λ (bs : List ℕ). written_over (letter ∷ bs) 0 bytes) all

-- The line that the writer stored is the definition's.
module _ (call : DeskCall) (buffer : List ℕ) where
  pub line_is_written : {size place : ℕ} {bytes : List ℕ} → length (written_line call) ≤ length buffer → size ≡ length (written_line call)
      → outcome place bytes ≡ written_over (bytes_of call) 0 buffer
      → outcome (record { number = 0; size = size }) (set bytes place line_feed) ≡ written call buffer
  unfolding written
  line_is_written {size} {place} {bytes} room is_size gave =
      let all : outcome (place + 1) (set bytes place line_feed) ≡ written_over (written_line call) 0 buffer =
      written_after (bytes_of call) (line_feed ∷ []) 0 buffer gave refl in
      let left : set bytes place line_feed ≡ written_line call ++ drop (length (written_line call)) buffer =
      after_is all ∙ rw zero-add at (sets-eq (written_line call) buffer 0 (rw zero-add room)) in
      rw (le-leb (length (written_line call)) (length buffer) room, is_size) (ap (outcome (record { number = 0; size = length (written_line call) })) left)
