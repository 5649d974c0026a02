-- How long a settings line is.
use Prim.Native.Nat.{ℕ, ◌+◌}
use native.Mathlib.Omega.{arith}
use mathlib.Core.Path.{◌≡◌}
use mathlib.Core.List.{List, [], ◌∷◌, ◌++◌}
use lib.ListN.{length, length-append}
use Rattle.desk_writer.specs.Writer.{field, spaced}
use Rattle.lesson_lines.specs.declared.Limits.{Limits}
use Rattle.lesson_lines.specs.Written.{idle_field, six_numbers, limits_bytes}

one_more : (n : ℕ) (ns : List ℕ) → length (spaced (n ∷ ns)) ≡ length (field n) + length (spaced ns)
unfolding spaced
one_more n ns = length-append (field n) (spaced ns)

six_sizes : (a b c d e f : ℕ) → length (spaced (a ∷ b ∷ c ∷ d ∷ e ∷ f ∷ []))
    ≡ length (field a) + length (field b) + length (field c) + length (field d) + (length (field e) + length (field f))
unfolding spaced
six_sizes a b c d e f =
    omega (
      arith,
      one_more a (b ∷ c ∷ d ∷ e ∷ f ∷ []),
      one_more b (c ∷ d ∷ e ∷ f ∷ []),
      one_more c (d ∷ e ∷ f ∷ []),
      one_more d (e ∷ f ∷ []),
      one_more e (f ∷ []),
      one_more f [],
    )

pub limits_length : (l : Limits) → length (limits_bytes l)
    ≡ 1 + length (spaced (six_numbers l)) + (length (idle_field l.idle) + length (field l.when_full))
limits_length l =
    omega (
      arith,
      length-append (spaced (six_numbers l)) (idle_field l.idle ++ field l.when_full),
      length-append (idle_field l.idle) (field l.when_full),
    )

pub limits_size_is : (l : Limits) → length (limits_bytes l) ≡ 1
    + (length (field l.amount) + length (field l.period) + length (field l.burst) + length (field l.initial))
    + (length (field l.modems) + length (field l.shards)) + length (idle_field l.idle) + length (field l.when_full)
limits_size_is l =
    omega (arith, limits_length l, six_sizes l.amount l.period l.burst l.initial l.modems l.shards)
