-- Words that are 0: a part of them, one more of them, all of them.
use Prim.Native.Nat.{ℕ, suc, ◌+◌, ◌≤◌, ◌<◌}
use native.Mathlib.Omega.{arith}
use native.Mathlib.Nat.{lt_of_lt_of_le}
use mathlib.Core.Path.{◌≡◌, refl, ◌∙◌}
use mathlib.Core.List.{List, [], ◌∷◌}
use lib.ListN.{length, get_or, set, drop, replicate, length-take, get_or-eq_default}
use lib.Seq.{get_or-set_same, get_or-set_other}
use Rattle.arith.proofs.Cases.{by_le, by_eq}
use Rattle.rows.specs.Segments.{segment}
use Rattle.rows.proofs.RowLaws.{segment_word}

-- A part of words that are all 0 is all 0: its own words are 0, and past its end 0 is read.
pub zeros_segment : (a n : ℕ) (ws : List ℕ) → ((i : ℕ) → get_or ws i 0 ≡ 0) → (i : ℕ) → get_or (segment a n ws) i 0 ≡ 0
zeros_segment a n ws zeros i =
    by_le n i
    (λ past. get_or-eq_default (segment a n ws) 0 (omega (arith, length-take n (drop a ws))))
    (λ inside. segment_word a n ws i inside ∙ zeros (a + i))

-- The words before place i are 0, and 0 is stored there: the words before the next place are 0.
pub next_word_zero : (ws : List ℕ) (i : ℕ) → i < length ws → ((j : ℕ) → j < i → get_or ws j 0 ≡ 0) → (j : ℕ) → j < i + 1 → get_or (set ws i 0) j 0 ≡ 0
next_word_zero ws i inside zeros j below =
    by_eq j i
    (λ same. rw same (get_or-set_same ws i 0 0 inside))
    (λ other. get_or-set_other ws i j 0 0 other ∙ zeros j (omega arith))

-- Words that are all 0 are as many zeros.
zeros_are : (ws : List ℕ) → ((j : ℕ) → j < length ws → get_or ws j 0 ≡ 0) → ws ≡ replicate (length ws) 0
zeros_are [] zeros = refl
zeros_are (w ∷ ws) zeros = rw (zeros 0 (omega arith), ← zeros_are ws (λ j below. zeros (suc j) (omega arith)))

pub zeros_to_the_end : (ws : List ℕ) (n i : ℕ) → length ws ≡ n → length ws ≤ i → ((j : ℕ) → j < i → get_or ws j 0 ≡ 0) → ws ≡ replicate n 0
zeros_to_the_end ws n i size end zeros = rw size at (zeros_are ws (λ j below. zeros j (lt_of_lt_of_le below end)))
