-- A proof by the two outcomes of a test. Each side is given the outcome as an equation, so no proof repeats the definition that it opens.
use mathlib.Core.Path.{◌≡◌, refl}
use mathlib.Core.Bool.{Bool, true, false}
use lib.Dec.{leb, eqb}
use Prim.Native.Nat.{ℕ, ◌≤◌, ◌<◌}
use borrow.Author.Tests.{leb-true, leb-false, eqb-true, eqb-false}

pub by_test : {Q : Type 0} (b : Bool) → (b ≡ true → Q) → (b ≡ false → Q) → Q
by_test true holds fails = holds refl
by_test false holds fails = fails refl

-- The same for the order of two numbers, and for their equality.
pub by_le : {Q : Type 0} (a b : ℕ) → (a ≤ b → Q) → (b < a → Q) → Q
by_le a b holds fails = by_test (leb a b) (λ t. holds (leb-true a b t)) (λ t. fails (leb-false a b t))

pub by_eq : {Q : Type 0} (a b : ℕ) → (a ≡ b → Q) → ((a ≡ b → ⊥) → Q) → Q
by_eq a b holds fails = by_test (eqb a b) (λ t. holds (eqb-true a b t)) (λ t. fails (eqb-false a b t))
