-- An exact index: every item stands in it once, on its walk, and no other place is in use.
use Rattle.std.specs.Prelude.{◌≡◌, ℕ, ◌+◌, ◌-◌, ◌%◌, ◌<◌, ◌≤◌, cond, List, [], ◌∷◌, length, ◌==◌}
use Rattle.index.specs.Walk.{at}

-- How many places hold the given word.
unfoldable pub copies : ℕ → List ℕ → ℕ
copies word [] = 0
copies word (x ∷ xs) = cond (x == word) 1 0 + copies word xs

-- Place y comes before place x on the way round that starts at place a.
pub data Before (a x y : ℕ) : Type 0 where
  mid : a ≤ y → y < x → Before a x y
  low : y < x → x < a → Before a x y
  high : x < a → a ≤ y → Before a x y

-- Every place in use is on the walk of the item that it names: no empty place comes before it.
abbrev pub OnWalk : (ℕ → ℕ) → ℕ → List ℕ → Type 0
OnWalk hash size ix = (x y : ℕ) → x < size → y < size → 0 < at ix x → Before (hash (at ix x - 1) % size) x y → 0 < at ix y

-- The index is exact for n items. There is an empty place, so every walk stops.
pub record Exact (hash : ℕ → ℕ) (n : ℕ) (ix : List ℕ) : Type 0 where
  pub room : n < length ix
  pub once : (i : ℕ) → i < n → copies (i + 1) ix ≡ 1
  pub others : (word : ℕ) → n < word → copies word ix ≡ 0
  pub empty : copies 0 ix + n ≡ length ix
  pub on_walk : OnWalk hash (length ix) ix
