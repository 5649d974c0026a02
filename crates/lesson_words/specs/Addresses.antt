-- The hardware address on a modem's label, as `00:1a:2b:3c:4d:5e`: six bytes of two hexadecimal digits each, with a colon between two bytes.
use Rattle.std.specs.Prelude.{ℕ, ◌+◌, ◌*◌, ◌-◌, ◌%◌, Bool, true, false, cond, List, [], ◌∷◌, eqb, leb, length, get_or, Option, Some, None}
use Rattle.decimal.specs.Decimal.{is_digit}
use Rattle.lesson_words.specs.Words.{small}

-- A hexadecimal digit, and its number: `0` to `9`, and `a` (97) to `f` (102) in either case. Of any other byte the number is 0.
unfoldable pub is_hex : ℕ → Bool
is_hex b = cond (is_digit b) true (cond (leb 97 (small b)) (leb (small b) 102) false)

unfoldable pub hex_of : ℕ → ℕ
hex_of b = cond (is_hex b) (cond (is_digit b) (b - 48) (small b - 87)) 0

-- A byte at a place of an address: every third one is a colon (58), the others are hexadecimal digits.
unfoldable pub fits_at : ℕ → ℕ → Bool
fits_at i b = cond (eqb (i % 3) 2) (eqb b 58) (is_hex b)

unfoldable pub all_fit : ℕ → List ℕ → Bool
all_fit i [] = true
all_fit i (b ∷ bs) = cond (fits_at i b) (all_fit (i + 1) bs) false

-- The byte whose two digits begin at a place.
abbrev pub pair_at : List ℕ → ℕ → ℕ
pair_at word i = 16 * hex_of (get_or word i 0) + hex_of (get_or word (i + 1) 0)

-- The number of six bytes: the first byte is highest.
abbrev pub six_bytes : List ℕ → ℕ
six_bytes word =
    1099511627776 * pair_at word 0 + 4294967296 * pair_at word 3 + 16777216 * pair_at word 6 + 65536 * pair_at word 9 + 256 * pair_at word 12 + pair_at word 15

-- The number of an address. Anything else is none.
unfoldable pub address_of : List ℕ → Option ℕ
address_of word = cond (eqb (length word) 17) (cond (all_fit 0 word) (Some (six_bytes word)) None) None
