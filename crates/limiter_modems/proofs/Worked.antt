-- Worked examples: what is told of 00:1a:2b:3c:4d:5e, of a group's address, and of five bytes.
use mathlib.Core.Path.{◌≡◌, refl}
use mathlib.Core.List.{[], ◌∷◌}
use Rattle.hash.specs.Fnv.{mixed, hash_from}
use Rattle.modems.specs.Address.{key_from, checked, identified}
use Rattle.limiter_modems.specs.IdentityTold.{told_identity, identity_told}

-- The hash was worked out by another program.
pub modem_is_told_hash_and_key : identity_told (0x00 ∷ 0x1a ∷ 0x2b ∷ 0x3c ∷ 0x4d ∷ 0x5e ∷ [])
    ≡ record { code = 0; hash = 0xa6a11141cd935a8b; key = 0x001a2b3c4d5e }
unfolding told_identity identified checked key_from hash_from mixed
modem_is_told_hash_and_key = refl

pub group_is_told_22 : identity_told (0x01 ∷ 0x00 ∷ 0x5e ∷ 0x00 ∷ 0x00 ∷ 0x01 ∷ []) ≡ record { code = 22; hash = 0; key = 0 }
unfolding told_identity identified checked
group_is_told_22 = refl

pub five_bytes_are_told_21 : identity_told (0x00 ∷ 0x1a ∷ 0x2b ∷ 0x3c ∷ 0x4d ∷ []) ≡ record { code = 21; hash = 0; key = 0 }
unfolding told_identity identified checked
five_bytes_are_told_21 = refl
