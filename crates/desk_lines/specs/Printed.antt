-- What the desk prints for a line: its number, a code and a wait, parted by a space, and the end of the line.
use Rattle.std.specs.Prelude.{ℕ, ◌+◌, List, [], ◌∷◌, ◌++◌, length}
use Rattle.std.proofs.lemmas.List.Edits.{sets}
use Rattle.rows.specs.Outcome.{Outcome, outcome}
use Rattle.decimal.specs.Decimal.{digits_of}
use Rattle.desk_lines.specs.Fields.{space}

-- The end of a line, an LF.
abbrev pub line_feed : ℕ
line_feed = 10

-- A number in decimal, and the byte after it.
abbrev pub printed_field : ℕ → ℕ → List ℕ
printed_field n after = digits_of n ++ (after ∷ [])

-- The most bytes of a printed line: three numbers of 20 digits, and a byte after each.
abbrev pub longest_printed : ℕ
longest_printed = 63

abbrev pub printed : ℕ → ℕ → ℕ → List ℕ
printed number code wait = printed_field number space ++ (printed_field code space ++ printed_field wait line_feed)

-- Bytes written over others from a place on: the place after them, and all bytes then.
abbrev pub written_over : List ℕ → ℕ → List ℕ → Outcome ℕ (List ℕ)
written_over new at bytes = outcome (at + length new) (sets bytes at new)
