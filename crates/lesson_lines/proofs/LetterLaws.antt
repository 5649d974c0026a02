-- The bytes before a comment, in the words of the kit's `find`.
use Prim.Native.Nat.{ℕ, ◌+◌, ◌-◌}
use native.Mathlib.Omega.{arith}
use mathlib.Core.Path.{◌≡◌}
use mathlib.Core.List.{List}
use lib.ListN.{length, take, drop}
use Rattle.scan.specs.Bytes.{index_of, slice}
use Rattle.desk_lines.proofs.FieldLaws.{found_from}
use Rattle.lesson_lines.specs.Lesson.{uncommented}

pub before_the_comment : (line : List ℕ) {stop : ℕ} → stop ≡ 0 + index_of 35 (slice 0 (length line) line) → take (stop - 0) (drop 0 line) ≡ uncommented line
before_the_comment line {stop} found = let is : stop - 0 ≡ index_of 35 line = omega (arith, found_from 35 line 0 found) in rw is
