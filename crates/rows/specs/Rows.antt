-- Words cut into rows of one width, and rows put together again.
use Rattle.std.specs.Prelude.{ℕ, zero, suc, List, [], ◌∷◌, ◌++◌, take, drop}

-- The first n rows of w words each.
unfoldable pub rows : ℕ → ℕ → List ℕ → List (List ℕ)
rows w zero ws = []
rows w (suc n) ws = take w ws ∷ rows w n (drop w ws)

-- The words of rows, one row after the other.
unfoldable pub unrow : List (List ℕ) → List ℕ
unrow [] = []
unrow (row ∷ rs) = row ++ unrow rs
