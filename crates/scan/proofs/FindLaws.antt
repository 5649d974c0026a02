-- One step of the search for a byte.
use Rattle.std.proofs.Common.{ℕ, suc, List, [], ◌∷◌, length, get_or, take, drop, ◌≡◌, ◌+◌, ◌<◌, ◌≤◌, arith, add-one, ◌∙◌, ap}
use Rattle.std.proofs.Math.Seq.{drop-cons}
use Rattle.std.proofs.lemmas.List.{get_or-take}
use lib.ListN.{drop_of_length-le}
use lib.Seq.{length-take-le}
use borrow.Author.Tests.{eq-eqb, ne_eqb}
use Rattle.scan.specs.Bytes.{index_after, index_of, slice}

-- Bytes from a place on begin with the byte there.
slice_at : (i j : ℕ) (xs : List ℕ) → i < j → j ≤ length xs → slice i j xs ≡ get_or xs i 0 ∷ slice (suc i) j xs
unfolding slice
slice_at i j xs less within =
    let size : length (take j xs) ≡ j = (length-take-le j xs within) in
    let inside : i < length (take j xs) = omega arith in
    drop-cons (take j xs) i 0 inside ∙ ap (λ (x : ℕ). x ∷ drop (suc i) (take j xs)) (get_or-take j xs i 0 less)

pub found : (b i j : ℕ) (xs : List ℕ) → i < j → j ≤ length xs → get_or xs i 0 ≡ b → i ≡ i + index_of b (slice i j xs)
unfolding index_of index_after
found b i j xs less within is = rw (slice_at i j xs less within, eq-eqb (get_or xs i 0) b is) (omega arith)

pub further : (b i j : ℕ) (xs : List ℕ) → i < j → j ≤ length xs → (get_or xs i 0 ≡ b → ⊥)
    → i + index_of b (slice i j xs) ≡ (i + 1) + index_of b (slice (i + 1) j xs)
unfolding index_of index_after
further b i j xs less within is_not = rw (slice_at i j xs less within, ne_eqb (get_or xs i 0) b is_not, add-one) (omega arith)

pub past : (b i : ℕ) (xs : List ℕ) → i ≤ length xs → i ≡ i + index_of b (slice i i xs)
unfolding slice index_of
past b i xs within =
    let size : length (take i xs) ≡ i = length-take-le i xs within in
    let none : drop i (take i xs) ≡ [] = drop_of_length-le (take i xs) {i = i} (omega arith) in
    rw none (omega arith)
