-- Worked examples: the key and the hash of the address 00:1a:2b:3c:4d:5e, and the numbers of slices that are refused.
use mathlib.Core.Path.{◌≡◌, refl}
use mathlib.Core.List.{List, [], ◌∷◌}
use Prim.Native.Nat.{ℕ}
use lib.ListN.{replicate}
use Rattle.hash.specs.Fnv.{mixed, hash_from}
use Rattle.modems.specs.Address.{key_from, key_of, hash_of, address_refusal, checked, identified}
use Rattle.std.proofs.Common.{Ok, Err}
use Rattle.settings.specs.declared.refusal.Refusal.TheVariants.{GroupAddress}

abbrev modem : List ℕ
modem = 0x00 ∷ 0x1a ∷ 0x2b ∷ 0x3c ∷ 0x4d ∷ 0x5e ∷ []

-- The bytes of the key stand in the order of the address.
pub first_byte_highest : key_of modem ≡ 0x001a2b3c4d5e
unfolding key_from
first_byte_highest = refl

-- The hash was worked out by another program.
pub hash_of_six_bytes : hash_of modem ≡ 0xa6a11141cd935a8b
unfolding hash_from mixed
hash_of_six_bytes = refl

pub modem_is_not_refused : address_refusal modem ≡ 0
unfolding address_refusal
modem_is_not_refused = refl

-- The highest bit of the first byte is not the group bit.
pub highest_bit_is_no_group : address_refusal (0x80 ∷ 0x1a ∷ 0x2b ∷ 0x3c ∷ 0x4d ∷ 0x5e ∷ []) ≡ 0
unfolding address_refusal
highest_bit_is_no_group = refl

-- 01:00:5e:00:00:01, the address of a group.
pub group_is_refused_12 : address_refusal (0x01 ∷ 0x00 ∷ 0x5e ∷ 0x00 ∷ 0x00 ∷ 0x01 ∷ []) ≡ 12
unfolding address_refusal
group_is_refused_12 = refl

-- The modem is named by this hash and key; the group by no modem's.
pub modem_is_identified : identified modem ≡ Ok (record { hash = 0xa6a11141cd935a8b; key = 0x001a2b3c4d5e })
unfolding identified checked key_from hash_from mixed
modem_is_identified = refl

pub group_is_not_identified : identified (0x01 ∷ 0x00 ∷ 0x5e ∷ 0x00 ∷ 0x00 ∷ 0x01 ∷ []) ≡ Err GroupAddress
unfolding identified checked
group_is_not_identified = refl

-- No bytes; and seven whose first has the group bit set: the length comes first.
pub no_bytes_are_refused_11 : address_refusal [] ≡ 11
unfolding address_refusal
no_bytes_are_refused_11 = refl

pub seven_group_bytes_are_refused_11 : address_refusal (replicate 7 1) ≡ 11
unfolding address_refusal
seven_group_bytes_are_refused_11 = refl
