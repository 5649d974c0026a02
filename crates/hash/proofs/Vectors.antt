-- Published vectors of FNV-1a, computed from the definition.
use Rattle.std.proofs.Common.{◌≡◌, [], ◌∷◌, refl}
use Rattle.hash.specs.Fnv.{mixed, hash_from, fnv1a}

-- The empty string has the offset basis as its hash.
pub empty_hash : fnv1a [] ≡ 14695981039346656037
unfolding hash_from
empty_hash = refl

-- "a"
pub a_hash : fnv1a (0x61 ∷ []) ≡ 0xaf63dc4c8601ec8c
unfolding hash_from mixed
a_hash = refl

-- "foobar"
pub foobar_hash : fnv1a (0x66 ∷ 0x6f ∷ 0x6f ∷ 0x62 ∷ 0x61 ∷ 0x72 ∷ []) ≡ 0x85944171f73967e8
unfolding hash_from mixed
foobar_hash = refl
