-- A line's bytes as fields, parted by one space each.
use Rattle.std.specs.Prelude.{ℕ, ◌+◌, ◌-◌, cond, List, [], ◌∷◌, eqb, leb, length, drop}
use Rattle.rows.specs.Segments.{segment}
use Rattle.scan.specs.Bytes.{index_of}

-- A space.
abbrev pub space : ℕ
space = 32

-- A byte in front of the first field.
abbrev pub on_first : ℕ → List (List ℕ) → List (List ℕ)
on_first b [] = (b ∷ []) ∷ []
on_first b (f ∷ fs) = (b ∷ f) ∷ fs

-- Every space ends a field, and the end of the bytes ends the last one; so there is always one field more than there are spaces, and fields can be empty.
unfoldable pub fields : List ℕ → List (List ℕ)
fields [] = [] ∷ []
fields (b ∷ bs) = cond (eqb b space) ([] ∷ fields bs) (on_first b (fields bs))

-- Where the first field from a place on ends: at the first space, or at the end of the line.
abbrev pub field_end : List ℕ → ℕ → ℕ
field_end line from = from + index_of space (drop from line)

-- The first field from a place on.
abbrev pub field_at : List ℕ → ℕ → List ℕ
field_at line from = segment from (field_end line from - from) line

-- The fields that are left from a place on: none past the end of the line, where the last field has been taken.
unfoldable pub fields_from : List ℕ → ℕ → List (List ℕ)
fields_from line from = cond (leb from (length line)) (fields (drop from line)) []
