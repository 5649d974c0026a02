-- Modems by hardware address, over the rules of the limiter below: which slices are addresses, which key and hash an address has, and what each of the five
-- calls by address answers and leaves. Numbers below 256 stand for bytes.
use Rattle.std.specs.Prelude.{ℕ, Result, Ok, Err, ◌+◌, ◌*◌, ◌%◌, Bool, true, cond, ◌&&◌, List, [], ◌∷◌, eqb, ltb, length, get_or}
use Rattle.rows.specs.Outcome.{Outcome}
use Rattle.units.specs.declared.Nanos.{Nanos}
use Rattle.settings.specs.declared.Settings.{Settings}
use Rattle.settings.specs.declared.refusal.Refusal.{Refusal}
use Rattle.settings.specs.declared.refusal.Refusal.TheVariants.{AddressLength, GroupAddress}
use Rattle.hash.specs.Fnv.{fnv1a}
use Rattle.shard.specs.declared.Identity.{Identity}
use Rattle.rules.specs.declared.Reply.{Reply}
use Rattle.rules.specs.Rules.{unless_refused}
use Rattle.rules.specs.Rules as Rules

-- An address has six bytes, and a byte is a number below 256.
abbrev pub address_bytes : ℕ
address_bytes = 6

abbrev pub are_bytes : List ℕ → Bool
are_bytes [] = true
are_bytes (byte ∷ bytes) = ltb byte 256 && are_bytes bytes

-- The key of an address is the number with the first byte highest: each byte is added to 256 times the number so far.
unfoldable pub key_from : ℕ → List ℕ → ℕ
key_from high [] = high
key_from high (byte ∷ bytes) = key_from (256 * high + byte) bytes

abbrev pub key_of : List ℕ → ℕ
key_of address = key_from 0 address

-- Its hash is FNV-1a over its bytes, first byte first. Hash and key are the modem's identity in the limiter.
abbrev pub hash_of : List ℕ → ℕ
hash_of address = fnv1a address

abbrev pub identity_of : List ℕ → Identity
identity_of address = record { hash = hash_of address; key = key_of address }

-- The group bit is the lowest bit of the first byte. It is set in the addresses of groups, which no modem has.
abbrev pub group_bit : List ℕ → ℕ
group_bit address = get_or address 0 0 % 2

-- A slice that is not six bytes is refused as 11. The group bit is looked at in six bytes only: where it is set, the address is refused as 12.
unfoldable pub address_refusal : List ℕ → ℕ
address_refusal address = cond (eqb (length address) address_bytes) (cond (eqb (group_bit address) 0) 0 12) 11

-- The same check, with the refusal in the place of its number (`checked_is_numbered`).
unfoldable pub checked : List ℕ → Result (Unit {0}) Refusal
checked address = cond (eqb (length address) address_bytes) (cond (eqb (group_bit address) 0) (Ok (tt {0})) (Err GroupAddress)) (Err AddressLength)

-- What a slice names: a modem by its identity, or no modem, for the refusal of the slice.
abbrev named_by : Identity → Result (Unit {0}) Refusal → Result Identity Refusal
named_by id (Ok accepted) = Ok id
named_by id (Err refusal) = Err refusal

unfoldable pub identified : List ℕ → Result Identity Refusal
identified address = named_by (identity_of address) (checked address)

-- A call by address is refused for its address before anything else is looked at, the settings too, and changes no word then. Any other is the limiter's call
-- with the identity of the address: a try,
abbrev pub try_acquire : Settings → Nanos → List ℕ → ℕ → List ℕ → Outcome Reply (List ℕ)
try_acquire s at address cost ws = unless_refused (address_refusal address) ws (Rules.try_acquire s at (identity_of address) cost ws)

-- a peek,
abbrev pub peek : Settings → Nanos → List ℕ → ℕ → List ℕ → Outcome Reply (List ℕ)
peek s at address cost ws = unless_refused (address_refusal address) ws (Rules.peek s at (identity_of address) cost ws)

-- a reservation,
abbrev pub reserve : Settings → Nanos → List ℕ → ℕ → Nanos → List ℕ → Outcome Reply (List ℕ)
reserve s at address cost longest ws = unless_refused (address_refusal address) ws (Rules.reserve s at (identity_of address) cost longest ws)

-- a refund,
abbrev pub refund : Settings → List ℕ → ℕ → List ℕ → Outcome Reply (List ℕ)
refund s address cost ws = unless_refused (address_refusal address) ws (Rules.refund s (identity_of address) cost ws)

-- a removal.
abbrev pub remove : Settings → List ℕ → List ℕ → Outcome Reply (List ℕ)
remove s address ws = unless_refused (address_refusal address) ws (Rules.remove s (identity_of address) ws)
