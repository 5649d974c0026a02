-- How many bytes numbers in a row have, and a line of them.
use Prim.Native.Nat.{ℕ, ◌+◌}
use native.Mathlib.Omega.{arith}
use mathlib.Core.Path.{◌≡◌, refl, sym, ap, ◌∙◌}
use mathlib.Core.List.{List, [], ◌∷◌, ◌++◌, append_assoc}
use lib.ListN.{length, length-append}
use Rattle.desk_lines.specs.Printed.{line_feed}
use Rattle.desk_writer.specs.declared.DeskCall.{DeskCall}
use Rattle.desk_writer.specs.Writer.{field, spaced, numbers_of, bytes_of, written_line}

-- Numbers in a row, one part after another.
pub spaced_append : (ms ns : List ℕ) → spaced (ms ++ ns) ≡ spaced ms ++ spaced ns
unfolding spaced
spaced_append [] ns = refl
spaced_append (m ∷ ms) ns = ap (λ (bs : List ℕ). field m ++ bs) (spaced_append ms ns) ∙ sym (append_assoc (field m) (spaced ms) (spaced ns))

-- How many bytes they have.
pub spaced_none_size : length (spaced []) ≡ 0
unfolding spaced
spaced_none_size = refl

pub spaced_size : (n : ℕ) (ns : List ℕ) → length (spaced (n ∷ ns)) ≡ length (field n) + length (spaced ns)
unfolding spaced
spaced_size n ns = length-append (field n) (spaced ns)

pub spaced_append_size : (ms ns : List ℕ) → length (spaced (ms ++ ns)) ≡ length (spaced ms) + length (spaced ns)
spaced_append_size ms ns = ap length (spaced_append ms ns) ∙ length-append (spaced ms) (spaced ns)

-- A line has its letter and its LF beside its numbers.
pub line_size : (call : DeskCall) → length (written_line call) ≡ 2 + length (spaced (numbers_of call))
line_size call = omega (arith, length-append (bytes_of call) (line_feed ∷ []))
