-- The definitions step by step: the product inside `mixed`, one turn and the end of a loop that hashes bytes, and the bytes of a key.
use Rattle.std.proofs.Common.{◌≡◌, ℕ, zero, suc, ◌+◌, ◌*◌, ◌/◌, ◌%◌, ◌^◌, ◌<◌, ◌≤◌, List, length, get_or, drop, refl, sym, add-one, drop_of_length-le}
use Rattle.std.proofs.Common.{drop-cons}
use Rattle.std.specs.Int.{w64, to_le_bytes, bytes_low_first}
use Rattle.std.proofs.Math.Nat.{div-div-eq-div-mul, pow-suc}
use lib.Bits.{bit_xor}
use Rattle.hash.specs.Fnv.{prime, mixed, hash_from, lowest_first}

-- The product that `mix` forms is the mixed hash.
pub product_is_mixed : (h b : ℕ) → (bit_xor b h * prime) % 2 ^ 64 ≡ mixed h b
unfolding mixed
product_is_mixed h b = refl

-- Hashing from place i on mixes the byte there, and goes on from the next place.
pub hash_mixes_next_byte : (h : ℕ) (bs : List ℕ) (i : ℕ) → i < length bs
    → hash_from h (drop i bs) ≡ hash_from (mixed h (get_or bs i 0)) (drop (i + 1) bs)
unfolding hash_from
hash_mixes_next_byte h bs i l = rw (add-one, drop-cons bs i 0)

-- Past the last byte the hash is the one reached.
pub hash_ends_after_last_byte : (h : ℕ) (bs : List ℕ) (i : ℕ) → length bs ≤ i → hash_from h (drop i bs) ≡ h
unfolding hash_from
hash_ends_after_last_byte h bs i l = rw (drop_of_length-le bs)

-- The bytes of a number from place i + 1 on are those of what is left of it past those before.
bytes_on : (i k n : ℕ) → bytes_low_first (suc i) k n ≡ lowest_first k (n / 256 ^ suc i)
unfolding lowest_first
bytes_on i zero n = refl
bytes_on i (suc k) n =
    let further : n / 256 ^ suc (suc i) ≡ n / 256 ^ suc i / 256 = rw pow-suc (sym (div-div-eq-div-mul n (256 ^ suc i) 256)) in
    rw (bytes_on (suc i) k n, further)

-- The eight bytes that a key has in std are its eight lowest bytes.
pub key_bytes : (key : ℕ) → to_le_bytes w64 key ≡ lowest_first 8 key
unfolding lowest_first
key_bytes key = rw (bytes_on 0 7 key)
