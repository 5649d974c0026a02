-- Lookup by the lowest place, by two laws: what is found passes, and where nothing is found nothing passes.
use Rattle.std.proofs.Common.{Some, None}
use Prim.Native.Nat.{ℕ, zero, suc, ◌+◌, ◌≤◌, ◌<◌}
use mathlib.Core.Path.{◌≡◌}
use mathlib.Core.Bool.{Bool, true, false}
use native.Mathlib.Omega.{arith}
use Rattle.arith.proofs.Cases.{by_test, by_eq}
use Rattle.rows.specs.Places.{lowest_from, lowest}

-- What a lookup that found place p says.
pub record Found (test : ℕ → Bool) (n p : ℕ) : Type 0 where
  pub below : p < n
  pub passes : test p ≡ true

from_found : (test : ℕ → Bool) (i left p : ℕ) → lowest_from test i left ≡ Some p → Found test (i + left) p
unfolding lowest_from
from_found test i zero p = λ e. let z : ◌≡◌ {A = ℕ} 0 1 = cc in absurd (omega arith)
from_found test i (suc left) p =
    by_test (test i)
    (λ t. rw (t, lowest_from) (λ e. let q : i ≡ p = cc in record { below = omega arith; passes = rw (← q) t }))
    (λ t. rw (t, lowest_from) (λ e. let f = from_found test (i + 1) left p e in record { below = omega arith; passes = f.passes }))

pub found_passes : (n : ℕ) (test : ℕ → Bool) (p : ℕ) → lowest n test ≡ Some p → Found test n p
found_passes n test p e = let f = from_found test 0 n p e in record { below = omega arith; passes = f.passes }

from_nowhere : (test : ℕ → Bool) (i left j : ℕ) → lowest_from test i left ≡ None → i ≤ j → j < i + left → test j ≡ false
unfolding lowest_from
from_nowhere test i zero j = λ e a b. absurd (omega arith)
from_nowhere test i (suc left) j =
    by_test (test i)
    (λ t. rw (t, lowest_from) (λ e a b. let z : ◌≡◌ {A = ℕ} 0 1 = cc in absurd (omega arith)))
    (λ t. rw (t, lowest_from) (λ e a b. by_eq i j (λ q. rw (← q) t) (λ other. from_nowhere test (i + 1) left j e (omega (arith, other)) (omega arith))))

pub nowhere_passes_none : (n : ℕ) (test : ℕ → Bool) (j : ℕ) → lowest n test ≡ None → j < n → test j ≡ false
nowhere_passes_none n test j e b = from_nowhere test 0 n j e (omega arith) (omega arith)
