-- Bytes cut into lines, and what is kept of a line that has not ended.
use Rattle.std.specs.Prelude.{ℕ, ◌+◌, ◌-◌, min, ◌≡◌, cond, List, [], ◌∷◌, ◌++◌, eqb, take, drop}
use Rattle.std.proofs.Math.Seq.{paste}
use Rattle.desk_lines.specs.Lines.{longest_line}
use Rattle.desk_lines.specs.Printed.{line_feed}

-- Bytes cut at each line feed: the lines that have ended, and what is left of the last one.
pub record Cut : Type 0 where
  pub lines : List (List ℕ)
  pub rest : List ℕ

-- A byte in front of the first line.
abbrev pub on_first : ℕ → List (List ℕ) → List ℕ → Cut
on_first b [] rest = record { lines = []; rest = b ∷ rest }
on_first b (line ∷ lines) rest = record { lines = (b ∷ line) ∷ lines; rest = rest }

unfoldable pub cut : List ℕ → Cut
cut [] = record { lines = []; rest = [] }
cut (b ∷ bs) = cond (eqb b line_feed) (record { lines = [] ∷ (cut bs).lines; rest = (cut bs).rest }) (on_first b (cut bs).lines (cut bs).rest)

-- The end of the input ends a line that has begun, and no line begins there.
abbrev pub last_line : List ℕ → List (List ℕ)
last_line [] = []
last_line (b ∷ bs) = (b ∷ bs) ∷ []

-- The lines of an input.
unfoldable pub lines_of : List ℕ → List (List ℕ)
lines_of input = (cut input).lines ++ last_line (cut input).rest

-- Of a line that has not ended one byte more than the longest may have is enough: with that it is malformed, whatever follows.
abbrev pub kept_of : List ℕ → List ℕ
kept_of rest = take (longest_line + 1) rest

-- The bytes of all reads.
unfoldable pub joined : List (List ℕ) → List ℕ
joined [] = []
joined (read ∷ reads) = read ++ joined reads

-- How many bytes are kept of those from a place on.
abbrev pub kept_from : ℕ → ℕ → ℕ
kept_from from end = min (end - from) (longest_line + 1)

abbrev pub moved_to_start : ℕ → ℕ → List ℕ → List ℕ
moved_to_start from n input = paste input 0 (drop from input) n

-- From a place on, past what is printed or pending, the bytes are as they were.
abbrev pub SameFrom : ℕ → List ℕ → List ℕ → Type 0
SameFrom place bytes bytes' = drop place bytes' ≡ drop place bytes
