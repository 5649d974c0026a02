-- A segment of a list, in the form in which a segment of a slice is lent.
use Rattle.std.specs.Prelude.{ℕ, List, take, drop}

-- The n words from a on.
abbrev pub segment : ℕ → ℕ → List ℕ → List ℕ
segment a n ws = take n (drop a ws)
