-- The words of a line of a lesson. Lists of numbers below 256 stand for strings of bytes.
use Rattle.std.specs.Prelude.{ℕ, suc, ◌+◌, Bool, true, cond, List, [], ◌∷◌, eqb, leb, take, drop}

-- What separates words: a space (32), a tab (9), a CR (13).
unfoldable pub is_blank : ℕ → Bool
is_blank b = cond (eqb b 32) true (cond (eqb b 9) true (eqb b 13))

-- How many blanks some bytes begin with.
unfoldable pub blanks_ahead : List ℕ → ℕ
blanks_ahead [] = 0
blanks_ahead (b ∷ bs) = cond (is_blank b) (suc (blanks_ahead bs)) 0

-- How many bytes come before the first blank.
unfoldable pub word_size : List ℕ → ℕ
word_size [] = 0
word_size (b ∷ bs) = cond (is_blank b) 0 (suc (word_size bs))

-- The first word of some bytes, which is empty where they have none; and the bytes after it.
abbrev pub trimmed : List ℕ → List ℕ
trimmed bs = drop (blanks_ahead bs) bs

abbrev pub first_word : List ℕ → List ℕ
first_word bs = take (word_size (trimmed bs)) (trimmed bs)

abbrev pub after_word : List ℕ → List ℕ
after_word bs = drop (word_size (trimmed bs)) (trimmed bs)

-- A letter from `A` (65) to `Z` (90) as the small letter. Any other byte stays.
unfoldable pub small : ℕ → ℕ
small b = cond (leb 65 b) (cond (leb b 90) (b + 32) b) b
