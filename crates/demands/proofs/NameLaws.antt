-- Names that code can be given mean hashes and keys that fit their widths; and what the rules say of a call by key, where a call may name an address too.
use Prim.Native.Nat.{ℕ, ◌^◌, ◌<◌}
use mathlib.Core.Path.{◌≡◌, refl}
use mathlib.Core.Bool.{Bool, true}
use mathlib.Core.List.{List, [], ◌∷◌}
use lib.ListN.{length}
use native.Mathlib.Nat.{mod-lt}
use native.Mathlib.Omega.{arith}
use borrow.Author.Tests.{lt-ltb}
use Rattle.rows.specs.Outcome.{Outcome}
use Rattle.settings.specs.declared.Settings.{Settings}
use Rattle.hash.specs.Fnv.{mixed, hash_from}
use Rattle.shard.specs.declared.Identity.{Identity}
use Rattle.rules.specs.Asks.{Ask, in_force}
use Rattle.rules.specs.Rules.{keyed_rule}
use Rattle.rules.specs.Widths.{fits64, key_fits}
use Rattle.rules.specs.Calls.{keyed, rules}
use Rattle.rules.proofs.RefusedLaws.{unless_refused_accepts}
use Rattle.modems.specs.Address.{are_bytes, hash_of, key_of, identity_of, address_refusal}
use Rattle.modems.specs.Names.{bytes_lendable, addressed_in, Name, key, address, named_in}
use Rattle.modems.proofs.AddressLaws.{not_refused_is_six_bytes}
use Rattle.modems.proofs.KeyLaws.{keys_fit_48_bits}
use Rattle.demands.proofs.WidthLaws.{both_true, NamesFit}

-- A hash fits 64 bits, whatever it is taken over.
hash_fits : (h : ℕ) (bytes : List ℕ) → h < 2 ^ 64 → hash_from h bytes < 2 ^ 64
unfolding hash_from mixed
hash_fits h [] small = small
hash_fits h (byte ∷ bytes) small = hash_fits (mixed h byte) bytes (mod-lt _ (omega arith))

pub bytes_of_lendable : (bytes : List ℕ) → bytes_lendable bytes ≡ true → are_bytes bytes ≡ true
bytes_of_lendable bytes lent = (both_true (fits64 (length bytes)) (are_bytes bytes) lent).1

-- The identity of an address fits.
pub addresses_fit : {S : Type 0} (means : S → Settings) (fit : S → Bool) → NamesFit (addressed_in means fit)
addresses_fit means fit bytes lent none =
    let number : key_of bytes < 2 ^ 64 = omega (arith, keys_fit_48_bits bytes (bytes_of_lendable bytes lent) (not_refused_is_six_bytes bytes none)) in
    rw (lt-ltb (hash_of bytes) (2 ^ 64) (hash_fits _ bytes (omega arith)), lt-ltb (key_of bytes) (2 ^ 64) number)

-- So does that of a key, and that of either.
pub names_fit : {S : Type 0} (means : S → Settings) (fit : S → Bool) → NamesFit (named_in means fit)
names_fit means fit (key id) fits none = fits
names_fit means fit (address bytes) lent none = addresses_fit means fit bytes lent none

-- A call that names a key follows the rule of what it asks.
pub key_is_the_rule : {S : Type 0} (means : S → Settings) (fit : S → Bool) (s : S) (id : Identity) (ask : Ask) (ws : List ℕ)
    → rules (named_in means fit) (keyed s (key id) ask) ws ≡ keyed_rule (in_force ask (means s)) id ask ws
key_is_the_rule means fit s id ask ws = unless_refused_accepts 0 ws (keyed_rule (in_force ask (means s)) id ask ws) refl
