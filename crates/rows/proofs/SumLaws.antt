-- Sums over places: they go by what stands at each place, and a change at one place changes them by what came less what went.
-- Changes are stated without a difference, so that they can be added up.
use Prim.Native.Nat.{ℕ, zero, suc, ◌+◌, ◌*◌, ◌≤◌, ◌<◌}
use mathlib.Core.Path.{◌≡◌, refl}
use native.Mathlib.Omega.{arith}
use Rattle.arith.proofs.Cases.{by_eq}
use Rattle.rows.specs.Places.{sum}

-- A sum over no places, and over one place more.
pub sum_of_none : (f : ℕ → ℕ) → sum 0 f ≡ 0
unfolding sum
sum_of_none f = refl

pub sum_next : (n : ℕ) (f : ℕ → ℕ) → sum (n + 1) f ≡ sum n f + f n
unfolding sum
sum_next n f = let next : n + 1 ≡ suc n = omega arith in rw next

pub sum_same : (n : ℕ) (f g : ℕ → ℕ) → ((i : ℕ) → i < n → f i ≡ g i) → sum n f ≡ sum n g
unfolding sum
sum_same zero f g same = refl
sum_same (suc n) f g same = omega (arith, sum_same n f g (λ i b. same i (omega arith)), same n (omega arith))

-- A sum of zeros.
pub sum_of_zeros : (n : ℕ) (f : ℕ → ℕ) → ((i : ℕ) → i < n → f i ≡ 0) → sum n f ≡ 0
unfolding sum
sum_of_zeros zero f zeros = refl
sum_of_zeros (suc n) f zeros = omega (arith, sum_of_zeros n f (λ i below. zeros i (omega arith)), zeros n (omega arith))

-- Two sums that differ at place j alone.
pub sum_changed : (n : ℕ) (f g : ℕ → ℕ) (j : ℕ) → j < n → ((i : ℕ) → i < n → (i ≡ j → ⊥) → f i ≡ g i) → sum n f + g j ≡ sum n g + f j
unfolding sum
sum_changed zero f g j b same = absurd (omega arith)
sum_changed (suc n) f g j b same =
    by_eq j n
    (λ e. rw e (omega (arith, sum_same n f g (λ i below. same i (omega arith) (λ q. omega arith)))))
    (λ other. omega (arith, sum_changed n f g j (omega arith) (λ i below. same i (omega arith)), same n (omega arith) (λ q. other (omega arith))))

-- A sum is at most another and a times a third where each of its terms is.
pub sum_le : (n : ℕ) (f g w : ℕ → ℕ) (a : ℕ) → ((i : ℕ) → i < n → f i ≤ g i + a * w i) → sum n f ≤ sum n g + a * sum n w
unfolding sum
sum_le zero f g w a below = omega arith
sum_le (suc n) f g w a below = omega (arith, sum_le n f g w a (λ i b. below i (omega arith)), below n (omega arith))

-- A term is at most the sum.
pub term_le_sum : (n : ℕ) (f : ℕ → ℕ) (j : ℕ) → j < n → f j ≤ sum n f
unfolding sum
term_le_sum zero f j b = absurd (omega arith)
term_le_sum (suc n) f j b = by_eq j n (λ e. rw e (omega arith)) (λ other. omega (arith, term_le_sum n f j (omega arith)))
