-- Bytes written one after another are written at once.
use Prim.Native.Nat.{ℕ, suc, ◌+◌, ◌≤◌}
use native.Mathlib.Omega.{arith}
use native.Mathlib.Nat.{add-zero, add_assoc}
use mathlib.Core.Path.{◌≡◌, sym, ap, ◌∙◌}
use mathlib.Core.List.{List, [], ◌∷◌, ◌++◌}
use lib.ListN.{length, set, length-append}
use lib.Seq.{sets}
use Rattle.rows.specs.Outcome.{Outcome, outcome}
use Rattle.rows.proofs.OutcomeLaws.{answer_is, after_is}
use Rattle.decimal.specs.Decimal.{digits_of}
use Rattle.decimal.proofs.WriteLaws.{digits_count}
use Rattle.desk_lines.specs.Printed.{printed_field, written_over}

sets_append : (bytes : List ℕ) (i : ℕ) (xs ys : List ℕ) → sets (sets bytes i xs) (i + length xs) ys ≡ sets bytes i (xs ++ ys)
sets_append bytes i [] ys = ap (λ (k : ℕ). sets bytes k ys) (add-zero i)
sets_append bytes i (x ∷ xs) ys =
    let next : i + suc (length xs) ≡ suc i + length xs = omega arith in
    ap (λ (k : ℕ). sets (sets (set bytes i x) (suc i) xs) k ys) next ∙ sets_append (set bytes i x) (suc i) xs ys

-- First some bytes, then others after them.
pub written_after : (xs ys : List ℕ) (at : ℕ) (bytes : List ℕ) {place : ℕ} {bytes' : List ℕ} {o : Outcome ℕ (List ℕ)}
    → outcome place bytes' ≡ written_over xs at bytes → o ≡ written_over ys place bytes' → o ≡ written_over (xs ++ ys) at bytes
written_after xs ys at bytes first second =
    let places = answer_is first in
    let words = after_is first in
    let end : at + length (xs ++ ys) ≡ at + length xs + length ys = ap (λ (k : ℕ). at + k) (length-append xs ys) ∙ sym (add_assoc at (length xs) (length ys)) in
    second ∙ rw (places, words, end) (ap (outcome (at + length xs + length ys)) (sets_append bytes at xs ys))

-- A number has at most 20 digits, so a field has at most 21 bytes.
pub field_short : (n after : ℕ) → length (printed_field n after) ≤ 21
field_short n after = omega (arith, digits_count n, length-append (digits_of n) (after ∷ []))
