-- FNV-1a for 64 bits, as document 01 gives it from draft-eastlake-fnv. Numbers stand for 64-bit words, and lists of numbers below 256 for strings of bytes.
use Rattle.std.specs.Prelude.{ℕ, zero, suc, ◌*◌, ◌/◌, ◌%◌, ◌^◌, List, [], ◌∷◌, bit_xor}

-- The hash before any byte: the draft's 64-bit offset basis.
abbrev pub offset_basis : ℕ
offset_basis = 14695981039346656037

-- The draft's 64-bit prime, 2^40 + 2^8 + 0xb3.
abbrev pub prime : ℕ
prime = 1099511628211

-- One byte into the hash h: XOR first, then the product with the prime, of which the low 64 bits stay (FNV-1 has the two steps the other way round).
-- The byte stands first because `bit_xor` takes a step for each binary digit of its first argument: 8 at most for a byte, up to 64 for a hash.
unfoldable pub mixed : ℕ → ℕ → ℕ
mixed h b = (bit_xor b h * prime) % 2 ^ 64

-- The hash after the bytes of a list, first to last, from the hash h on.
unfoldable pub hash_from : ℕ → List ℕ → ℕ
hash_from h [] = h
hash_from h (b ∷ bs) = hash_from (mixed h b) bs

-- The hash of a string of bytes.
abbrev pub fnv1a : List ℕ → ℕ
fnv1a bs = hash_from offset_basis bs

-- The n lowest bytes of a number, lowest first.
unfoldable pub lowest_first : ℕ → ℕ → List ℕ
lowest_first zero x = []
lowest_first (suc n) x = (x % 256) ∷ lowest_first n (x / 256)

-- The hash of a key: that of its eight bytes, lowest first.
abbrev pub key_hash : ℕ → ℕ
key_hash key = fnv1a (lowest_first 8 key)
