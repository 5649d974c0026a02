-- Over the first places: the lowest that passes a test, and a sum.
use Rattle.std.specs.Prelude.{ℕ, zero, suc, ◌+◌, Bool, cond, Option, Some, None}

-- The lowest place from i on that passes a test, within so many places.
unfoldable pub lowest_from : (ℕ → Bool) → ℕ → ℕ → Option ℕ
lowest_from test i zero = None
lowest_from test i (suc left) = cond (test i) (Some i) (lowest_from test (i + 1) left)

-- The lowest of the first n places that passes a test.
abbrev pub lowest : ℕ → (ℕ → Bool) → Option ℕ
lowest n test = lowest_from test 0 n

-- A sum over the first n places.
unfoldable pub sum : ℕ → (ℕ → ℕ) → ℕ
sum zero f = 0
sum (suc n) f = sum n f + f n
