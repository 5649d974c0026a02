-- What is kept of a line that has not ended, at the start of the input.
use Prim.Native.Nat.{ℕ, zero, suc, ◌+◌, ◌-◌, ◌≤◌}
use native.Mathlib.Omega.{arith}
use mathlib.Core.Path.{◌≡◌, sym, ap, subst, ◌∙◌}
use mathlib.Core.List.{List, [], ◌∷◌}
use lib.ListN.{length, take, drop, length-take, length-drop}
use lib.Seq.{take-paste, drop-paste, take-take, take_all, take-nil}
use Rattle.arith.proofs.Cases.{by_le}
use Rattle.desk_lines.specs.Lines.{longest_line}
use Rattle.desk_cutting.specs.Cutting.{cut, kept_of, kept_from, moved_to_start, SameFrom}

-- The bytes between two places, taken from either end.
pub drop_take : (from end : ℕ) (l : List ℕ) → from ≤ end → drop from (take end l) ≡ take (end - from) (drop from l)
drop_take zero end l within = let same : end - 0 ≡ end = omega arith in rw same
drop_take (suc from) zero l within = absurd (omega (arith, within))
drop_take (suc from) (suc end) [] within = sym (take-nil (suc end - suc from))
drop_take (suc from) (suc end) (x ∷ l) within =
    let less : suc end - suc from ≡ end - from = omega arith in rw less (drop_take from end l (omega (arith, within)))

-- What is kept at the start of the input is enough of what is left.
pub rest_is_kept : (from end : ℕ) (input : List ℕ) → from ≤ end → end ≤ length input
    → take (kept_from from end) (moved_to_start from (kept_from from end) input) ≡ kept_of (drop from (take end input))
rest_is_kept from end input within inside =
    let n = kept_from from end in
    let rest = drop from input in
    let enough : n ≤ length rest = omega (arith, within, inside, length-drop from input) in
    let front : 0 + n ≡ n = omega arith in
    let moved : take n (moved_to_start from n input) ≡ take n rest =
    subst (λ (k : ℕ). take k (moved_to_start from n input) ≡ take n rest) front (take-paste input 0 rest n (omega arith) enough) in
    moved ∙ by_le (end - from) (longest_line + 1)
    (λ short. let same : n ≡ end - from = omega (arith, short) in
    rw (same, drop_take from end input within)
    (sym (take_all (longest_line + 1) (take (end - from) rest) (omega (arith, short, length-take (end - from) rest)))))
    (λ long. let same : n ≡ longest_line + 1 = omega (arith, long) in
    rw (same, drop_take from end input within) (sym (take-take (longest_line + 1) (end - from) rest (omega (arith, long)))))

-- What is moved to the start stands over as many bytes, and those further on are as they were.
pub beyond_moved : (from n : ℕ) (input : List ℕ) → from + n ≤ length input → SameFrom n input (moved_to_start from n input)
beyond_moved from n input inside =
    let front : 0 + n ≡ n = omega arith in
    subst (λ (k : ℕ). drop k (moved_to_start from n input) ≡ drop k input) front
    (drop-paste input 0 (drop from input) n (omega arith) (omega (arith, inside, length-drop from input)))

-- The bytes that have been read are the first of the input. What is left of their last line is kept; all bytes past what is kept are as they were.
module _ (end : ℕ) (input : List ℕ) where
  pub turn_keeps : (at : ℕ) {pending : ℕ} {input' : List ℕ} → at ≤ end → end ≤ length input → pending ≡ kept_from at end
      → input' ≡ moved_to_start at pending input
      → drop at (take (end - 0) input) ≡ (cut (take (end - 0) input)).rest → take pending input' ≡ kept_of (cut (take end input)).rest
  turn_keeps at within inside few moved leaves =
      let same : end - 0 ≡ end = omega arith in
      rw (moved, few) (rest_is_kept at end input within inside) ∙ ap kept_of (rw same at leaves)

  pub turn_leaves_beyond : (at : ℕ) {pending : ℕ} {input' : List ℕ} → at ≤ end → end ≤ length input → pending ≡ kept_from at end
      → input' ≡ moved_to_start at pending input → SameFrom pending input input'
  turn_leaves_beyond at {pending} within inside few moved = rw moved (beyond_moved at pending input (omega (arith, within, inside, few)))
