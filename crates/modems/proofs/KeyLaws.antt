-- Keys and identities of addresses: equal addresses have equal ones, and different addresses different ones; and a key fits 48 bits. A modem's key in the
-- limiter is its identity, hash and key number together. The key number alone tells addresses apart, and so does the identity.
use Prim.Native.Nat.{ℕ, ◌+◌, ◌*◌, ◌^◌, ◌<◌, ◌≤◌}
use mathlib.Core.Path.{◌≡◌, refl, ap}
use mathlib.Core.Bool.{Bool, true, false, ◌&&◌}
use mathlib.Core.List.{List, [], ◌∷◌}
use lib.Dec.{ltb}
use lib.ListN.{length}
use native.Mathlib.Nat.{pow-suc, mul-le-mul_right}
use native.Mathlib.Omega.{arith}
use borrow.Author.Tests.{ltb-true}
use Rattle.modems.specs.Address.{address_bytes, are_bytes, key_from, key_of, identity_of}

-- The first of some bytes is a byte, and so are the others.
pub byte_and_bytes : (byte : ℕ) (bytes : List ℕ) → are_bytes (byte ∷ bytes) ≡ true → (byte < 256) × (are_bytes bytes ≡ true)
byte_and_bytes byte bytes all = both (ltb byte 256) (ltb-true byte 256) all
  where
    both : (b : Bool) → (b ≡ true → byte < 256) → (b && are_bytes bytes) ≡ true → (byte < 256) × (are_bytes bytes ≡ true)
    both true small rest = (small refl, rest)
    both false small rest = (small rest, cc)

-- Equal addresses have equal keys.
pub equal_addresses_have_equal_keys : (a b : List ℕ) → a ≡ b → key_of a ≡ key_of b
equal_addresses_have_equal_keys a b same = ap key_of same

-- Equal addresses have equal identities.
pub equal_addresses_have_equal_identities : (a b : List ℕ) → a ≡ b → identity_of a ≡ identity_of b
equal_addresses_have_equal_identities a b same = ap identity_of same

-- From two numbers on, as many bytes lead to one key only from equal numbers by equal bytes.
one_key_one_way : (h k : ℕ) (a b : List ℕ) → are_bytes a ≡ true → are_bytes b ≡ true → length a ≡ length b → key_from h a ≡ key_from k b → (h ≡ k) × (a ≡ b)
unfolding key_from
one_key_one_way h k [] [] = λ all every as_many same. (same, refl)
one_key_one_way h k [] (y ∷ b) = λ all every as_many same. absurd (omega (arith, as_many))
one_key_one_way h k (x ∷ a) [] = λ all every as_many same. absurd (omega (arith, as_many))
one_key_one_way h k (x ∷ a) (y ∷ b) = λ all every as_many same.
    let left = byte_and_bytes x a all in
    let right = byte_and_bytes y b every in
    let further = one_key_one_way (256 * h + x) (256 * k + y) a b left.1 right.1 (omega (arith, as_many)) same in
    let high : h ≡ k = omega (arith, further.0, left.0, right.0) in
    let byte : x ≡ y = omega (arith, further.0, left.0, right.0) in
    (high, rw (byte, further.1))

-- Equal keys are those of equal addresses: different addresses have different keys.
pub equal_keys_have_equal_addresses : (a b : List ℕ) → are_bytes a ≡ true → are_bytes b ≡ true → length a ≡ address_bytes → length b ≡ address_bytes
    → key_of a ≡ key_of b → a ≡ b
equal_keys_have_equal_addresses a b all every six as_many same = (one_key_one_way 0 0 a b all every (omega (arith, six, as_many)) same).1

-- Different addresses have different keys.
pub different_addresses_have_different_keys : (a b : List ℕ) → are_bytes a ≡ true → are_bytes b ≡ true → length a ≡ address_bytes → length b ≡ address_bytes
    → (a ≡ b → ⊥) → key_of a ≡ key_of b → ⊥
different_addresses_have_different_keys a b all every six as_many different same = different (equal_keys_have_equal_addresses a b all every six as_many same)

-- Equal identities are those of equal addresses: different addresses have different identities, whatever their hashes.
pub equal_identities_have_equal_addresses : (a b : List ℕ) → are_bytes a ≡ true → are_bytes b ≡ true → length a ≡ address_bytes → length b ≡ address_bytes
    → identity_of a ≡ identity_of b → a ≡ b
equal_identities_have_equal_addresses a b all every six as_many same = equal_keys_have_equal_addresses a b all every six as_many (ap (λ i. i.key) same)

-- Different addresses have different identities.
pub different_addresses_have_different_identities : (a b : List ℕ) → are_bytes a ≡ true → are_bytes b ≡ true → length a ≡ address_bytes
    → length b ≡ address_bytes → (a ≡ b → ⊥) → identity_of a ≡ identity_of b → ⊥
different_addresses_have_different_identities a b all every six as_many different same =
    different (equal_identities_have_equal_addresses a b all every six as_many same)

-- So many bytes, from a number on, stay below the next number with as many zero bytes behind it.
below_next : (high : ℕ) (bytes : List ℕ) → are_bytes bytes ≡ true → key_from high bytes < (high + 1) * 256 ^ length bytes
unfolding key_from
below_next high [] = λ all. omega arith
below_next high (byte ∷ bytes) = λ all.
    let first = byte_and_bytes byte bytes all in
    let further = below_next (256 * high + byte) bytes first.1 in
    let power = 256 ^ length bytes in
    let most : (256 * high + byte + 1) * power ≤ 256 * (high + 1) * power = mul-le-mul_right power (omega (arith, first.0)) in
    rw (pow-suc 256 (length bytes)) (omega (arith, further, most))

-- The key of an address fits 48 bits.
pub keys_fit_48_bits : (address : List ℕ) → are_bytes address ≡ true → length address ≡ address_bytes → key_of address < 2 ^ 48
keys_fit_48_bits address all six = omega (arith, rw six at (below_next 0 address all))
