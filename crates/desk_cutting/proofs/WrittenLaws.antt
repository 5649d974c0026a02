-- What is printed after what stood printed.
use Prim.Native.Nat.{ℕ, ◌+◌, ◌-◌, ◌≤◌}
use native.Mathlib.Omega.{arith}
use mathlib.Core.Path.{◌≡◌, sym, ap, ◌∙◌}
use mathlib.Core.List.{List, ◌++◌}
use lib.ListN.{length, take, drop, length-append}
use lib.Seq.{drop-drop, sets-eq, take_at, drop_at, length-take-le}
use Rattle.rows.specs.Outcome.{outcome}
use Rattle.rows.proofs.OutcomeLaws.{answer_is, after_is}
use Rattle.desk_lines.specs.Printed.{written_over}
use Rattle.desk_cutting.specs.Cutting.{SameFrom}

-- Bytes written after those that stand printed.
pub written_on : (new : List ℕ) (put : ℕ) (output : List ℕ) {put' : ℕ} {output' : List ℕ} → put + length new ≤ length output
    → outcome put' output' ≡ written_over new put output
    → take put' output' ≡ take put output ++ new
written_on new put output fits gave =
    let front : length (take put output ++ new) ≡ put + length new =
    length-append (take put output) new ∙ ap (λ (k : ℕ). k + length new) (length-take-le put output (omega (arith, fits))) in
    rw (answer_is gave, after_is gave, sets-eq new output put fits) (take_at (take put output ++ new) (drop (put + length new) output) (put + length new) front)

-- What stands past the bytes that were written is as it was.
pub beyond_written : (new : List ℕ) (put : ℕ) (output : List ℕ) {put' : ℕ} {output' : List ℕ} → put + length new ≤ length output
    → outcome put' output' ≡ written_over new put output → SameFrom put' output output'
beyond_written new put output fits gave =
    let front : length (take put output ++ new) ≡ put + length new =
    length-append (take put output) new ∙ ap (λ (k : ℕ). k + length new) (length-take-le put output (omega (arith, fits))) in
    rw (answer_is gave, after_is gave, sets-eq new output put fits) (drop_at (take put output ++ new) (drop (put + length new) output) (put + length new) front)

-- What is the same from a place on is the same from every place further on.
pub same_further : (place place' : ℕ) (xs ys zs : List ℕ) → SameFrom place xs ys → place ≤ place' → SameFrom place' ys zs → SameFrom place' xs zs
same_further place place' xs ys zs near less far =
    let step = place' - place in
    let there : place + step ≡ place' = omega (arith, less) in
    let again : drop (place + step) ys ≡ drop (place + step) xs = sym (drop-drop step place ys) ∙ ap (drop step) near ∙ drop-drop step place xs in
    far ∙ (rw there at again)
