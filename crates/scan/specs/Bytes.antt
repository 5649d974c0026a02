-- The place of a byte among bytes.
use Rattle.std.specs.Prelude.{ℕ, Bool, true, false, List, [], ◌∷◌, suc, take, drop, eqb}

-- Where something is that is either here, or so far on in what follows.
unfoldable pub index_after : Bool → ℕ → ℕ
index_after true n = 0
index_after false n = suc n

-- The place of the first byte that equals b, or the number of bytes where none does.
unfoldable pub index_of : ℕ → List ℕ → ℕ
index_of b [] = 0
index_of b (x ∷ xs) = index_after (eqb x b) (index_of b xs)

-- The bytes from a place on and before another.
unfoldable pub slice : ℕ → ℕ → List ℕ → List ℕ
slice i j xs = drop i (take j xs)
