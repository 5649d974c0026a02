-- What the code tells of a part of a line.
use Rattle.std.specs.Prelude.{◌≡◌, ℕ, List, Option, Some, None}
use Rattle.desk_lines.specs.Lines.{failed, left, Taken}

-- A part that was taken, with the fields that are then left; or nothing, where the reading has failed.
abbrev pub Tells : {A : Type 0} → Option A → List (List ℕ) → Taken A → Type 0
Tells None fs t = t.rest ≡ failed
Tells (Some v) fs t = t ≡ record { value = v; rest = left fs }
